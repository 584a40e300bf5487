use Rattle.std.proofs.Common.{◌≡◌, ℕ, ◌+◌, List, length, ap, refl, ◌∙◌, arith}
use Rattle.gx_record.specs.Rec.{Rec, Widen}
use Rattle.gx_record.specs.declared.sizes.TheConstants.{WIDEN_BESIDE_KEY}
use Rattle.gx_record.proofs.Writes.{spelling_size}
use Rattle.gx_storage.specs.State.{Journal}
use Rattle.gx_storage.proofs.SmallWidens.{widen_in_range}
use Rattle.gx_storage.proofs.Writing.{is_last}
use Rattle.gx_storage.proofs.journal.Journal.append_widen.Goals as goal

pub append-requires-clause-in_range : goal.append-requires-clause-in_range
append-requires-clause-in_range g c = widen_in_range c.args.page c.args.slot c.encode.new.out c.ranges.page.fits c.requires.may.held.from c.requires.slot

pub returns-clause-last : goal.returns-clause-last
returns-clause-last g c =
    let i = c.self.inside in
    let old : Journal = record { log = i.log; imaged = i.imaged } in
    let new : Journal = record { log = c.append.new.log; imaged = i.imaged } in
    let takes = rw (← c.self.view_is) at c.requires.may.takes in
    let x : Rec = Widen c.args.page c.args.slot c.encode.new.out in
    let long : length c.encode.new.out ≡ g.K.KeyClass.KEY = ap length c.encode.ensures ∙ g.met.K.KeyClass.spelling_length c.args.key c.known.ensures in
    let size = spelling_size x (widen_in_range c.args.page c.args.slot c.encode.new.out c.ranges.page.fits c.requires.may.held.from c.requires.slot) in
    let same = ap (λ (key : List ℕ). Widen c.args.page c.args.slot key) c.encode.ensures in
    rw (← c.self.view_is) (is_last _ _ x _ (g.K.KeyClass.KEY + WIDEN_BESIDE_KEY) old new c.append.result same c.append.ensures.appends takes (omega (arith, size, long)) long
    (λ l. c.append.ensures.up l) c.append.ensures.stamped refl)
