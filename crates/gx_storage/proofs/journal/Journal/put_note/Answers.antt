use Rattle.std.proofs.Common.{Bool, ℕ, List, ap, refl, ◌∙◌}
use Rattle.gx_record.specs.Rec.{Note}
use Rattle.gx_record.specs.Seen.{is_marked}
use Rattle.gx_storage.proofs.journal.Journal.put_note.Goals as goal

pub returns : goal.returns
returns g c =
    let same = ap (λ (key : List ℕ). Note c.args.transaction c.args.row key (is_marked c.mark_of.result) c.args.leaf) c.encode.ensures
    ∙ ap (λ (b : Bool). Note c.args.transaction c.args.row (g.K.KeyClass.spelling c.args.key) b c.args.leaf) c.mark_of.ensures in
    rw (← c.self.view_is, ← same) (record { puts = c.put_first.ensures.puts; head = c.put_first.ensures.head; up = λ l. c.put_first.ensures.up l; only = refl })
