use Rattle.std.proofs.Common.{◌≡◌, ℕ, ◌+◌, ◌<◌, ◌^◌, Bool, List, length, ap, refl, ◌∙◌, rules, arith}
use Rattle.gx_record.specs.Rec.{Rec, Bit}
use Rattle.gx_record.specs.Seen.{is_marked}
use Rattle.gx_record.specs.declared.sizes.TheConstants.{BIT_BESIDE_KEY}
use Rattle.gx_record.proofs.Writes.{spelling_size}
use Rattle.gx_storage.specs.State.{Journal}
use Rattle.gx_storage.proofs.SmallMarks.{bit_in_range}
use Rattle.gx_storage.proofs.Writing.{is_last}
use Rattle.gx_storage.proofs.journal.Journal.append_bit.Goals as goal

pub append-requires-clause-in_range : goal.append-requires-clause-in_range
append-requires-clause-in_range g c =
    let row : c.args.entry.row < 2 ^ 64 = search rules in
    bit_in_range c.args.transaction c.args.entry.row c.encode.new.out c.args.before c.args.after c.args.leaf c.ranges.transaction.fits row c.ranges.leaf.fits c.requires.held.from

pub returns-clause-last : goal.returns-clause-last
returns-clause-last g c =
    let i = c.self.inside in
    let old : Journal = record { log = i.log; imaged = i.imaged } in
    let new : Journal = record { log = c.append.new.log; imaged = i.imaged } in
    let takes = rw (← c.self.view_is) at c.requires.takes in
    let row : c.args.entry.row < 2 ^ 64 = search rules in
    let entry = c.args.entry in
    let before = is_marked c.mark_of.result in
    let after = is_marked c.mark_of-2.result in
    let x : Rec = Bit c.args.transaction entry.row c.encode.new.out before after c.args.leaf in
    let long : length c.encode.new.out ≡ g.K.KeyClass.KEY = ap length c.encode.ensures ∙ g.met.K.KeyClass.spelling_length entry.key c.known.ensures in
    let size = spelling_size x (bit_in_range c.args.transaction entry.row c.encode.new.out before after c.args.leaf c.ranges.transaction.fits row c.ranges.leaf.fits c.requires.held.from) in
    let same =
    ap (λ (key : List ℕ). Bit c.args.transaction entry.row key before after c.args.leaf) c.encode.ensures
    ∙ ap (λ (b : Bool). Bit c.args.transaction entry.row (g.K.KeyClass.spelling entry.key) b after c.args.leaf) c.mark_of.ensures
    ∙ ap (λ (b : Bool). Bit c.args.transaction entry.row (g.K.KeyClass.spelling entry.key) c.args.before b c.args.leaf) c.mark_of-2.ensures in
    rw (← c.self.view_is) (is_last _ _ x _ (g.K.KeyClass.KEY + BIT_BESIDE_KEY) old new c.append.result same c.append.ensures.appends takes (omega (arith, size, long)) long
    (λ l. c.append.ensures.up l) c.append.ensures.stamped refl)
