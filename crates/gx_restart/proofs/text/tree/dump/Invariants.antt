use Rattle.std.proofs.Common.{[], ◌++◌}
use Rattle.gx_machine.specs.Keys.{Members}
use Rattle.gx_class.specs.Traits.{traits_of}
use Rattle.gx_node.specs.Reading.{format_of, is_node}
use Rattle.gx_recovery.specs.Known.{Limits}
use Rattle.gx_durable.specs.Classes.{class_of, reading_of}
use Rattle.gx_script.specs.Corners.{grammar}
use Rattle.gx_script.specs.Writes.{IsPut}
use Rattle.gx_restart.specs.Bringing.{AreBrought, Brings, Helps}
use Rattle.gx_restart.specs.Reading.{OfItsTree}
use Rattle.gx_restart.specs.Text.{head_line, pages_text}
use Rattle.gx_restart.proofs.text.tree.dump.Given as goal

-- the pages before this one were brought, and written behind the first line
abbrev pub invariant-loop-last : goal.invariant-loop-last
invariant-loop-last g l =
    let boxes : Members g.row.B.Denot = record { partial_cmp = g.B.PartialOrd.partial_cmp; eq = g.B.PartialEq.eq; cmp = g.B.Ord.cmp; overlap = g.B.Shape.overlap; inside = g.B.Shape.inside } in
    let k = grammar g.B.Corners.COUNT g.B.Corners.corners g.B.Corners.fit g.B.Corners.made in
    record {
      all : AreBrought (Brings boxes (traits_of g.K.ReadKeys.is_proper g.K.ReadKeys.said g.K.KeyClass) g.D.SectorDisk.state) (Helps boxes (traits_of g.K.ReadKeys.is_proper g.K.ReadKeys.said g.K.KeyClass) g.D.SectorDisk.state)
          l.fn.engine l.last l.engine;
      put : (lim : Limits) → OfItsTree (class_of boxes g.K.ReadKeys.is_proper lim) (reading_of g.K.ReadKeys.said (format_of g.K.KeyClass)) (format_of g.K.KeyClass) (is_node (format_of g.K.KeyClass))
          g.D.SectorDisk.state l.fn.engine
          (λ t. IsPut (g.W.Write.contents l.fn.writer.inner) (g.W.Write.contents l.writer.inner) [] (head_line l.fn.engine.sessions.latest t.used t.counter ++ pages_text k t.node l.last) l.lines);
    }
