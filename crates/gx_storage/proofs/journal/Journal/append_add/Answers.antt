use Rattle.std.proofs.Common.{◌≡◌, ℕ, ◌+◌, ◌<◌, ◌^◌, List, length, ap, refl, subst, ◌∙◌, rules, arith}
use Rattle.gx_page.specs.Bytes.{AreBytes}
use Rattle.gx_record.specs.Rec.{Rec, Add}
use Rattle.gx_record.specs.declared.sizes.TheConstants.{ADD_BESIDE_KEY}
use Rattle.gx_record.proofs.Writes.{spelling_size}
use Rattle.gx_storage.specs.State.{Journal}
use Rattle.gx_storage.proofs.Writing.{add_in_range, is_last}
use Rattle.gx_storage.proofs.journal.Journal.append_add.Goals as goal

pub append-requires-clause-in_range : goal.append-requires-clause-in_range
append-requires-clause-in_range g c =
    let row : c.args.entry.row < 2 ^ 64 = search rules in
    add_in_range c.args.transaction c.args.entry.row c.spell.new.spelled c.args.leaf c.ranges.transaction.fits row c.ranges.leaf.fits c.requires.held.from

pub returns-clause-last : goal.returns-clause-last
returns-clause-last g c =
    let i = c.self.inside in
    let old : Journal = record { log = i.log; imaged = i.imaged } in
    let new : Journal = record { log = c.append.new.log; imaged = i.imaged } in
    let takes = rw (← c.self.view_is) at c.requires.takes in
    let row : c.args.entry.row < 2 ^ 64 = search rules in
    let x : Rec = Add c.args.transaction c.args.entry.row c.spell.new.spelled c.args.leaf in
    let long : length c.spell.new.spelled ≡ g.K.KeyClass.KEY = ap length c.spell.ensures.spelled ∙ g.met.K.KeyClass.spelling_length c.args.entry.key c.known.ensures in
    let size = spelling_size x (add_in_range c.args.transaction c.args.entry.row c.spell.new.spelled c.args.leaf c.ranges.transaction.fits row c.ranges.leaf.fits c.requires.held.from) in
    let same = ap (λ (key : List ℕ). Add c.args.transaction c.args.entry.row key c.args.leaf) c.spell.ensures.spelled in
    rw (← c.self.view_is) (is_last _ _ x _ (g.K.KeyClass.KEY + ADD_BESIDE_KEY) old new c.append.result same c.append.ensures.appends takes (omega (arith, size, long)) long
    (λ l. c.append.ensures.up l) c.append.ensures.stamped refl)

pub returns-clause-entry : goal.returns-clause-entry
returns-clause-entry g c = record {
  row_fits = search rules;
  key_bytes = subst {A = List ℕ} AreBytes c.spell.ensures.spelled c.spell.ensures.bytes;
}
