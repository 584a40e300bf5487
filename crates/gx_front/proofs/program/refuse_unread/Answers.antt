use Rattle.std.proofs.Common.{ℕ, List, subst, ◌∙◌}
use Rattle.gx_commands.specs.Streams.{Prints, stream_of}
use Rattle.gx_front.proofs.program.refuse_unread.Goals as goal

pub returns-clause-told : goal.returns-clause-told
returns-clause-told g c =
    let words = c.as_bytes.ensures.value ∙ c.as_str.ensures.value ∙ c.unread_line.ensures in
    subst (λ (text : List ℕ). Prints text (stream_of g.E.Write.contents c.args.faults.now) (stream_of g.E.Write.contents c.print.new.writer)) words
    c.print.ensures
