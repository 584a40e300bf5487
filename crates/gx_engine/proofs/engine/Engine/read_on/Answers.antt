use Rattle.std.proofs.Common.{◌≡◌, ◌≤◌, ◌<◌, ◌-◌, length, ℕ, sym, subst, not, arith, rules}
use Rattle.std.proofs.lemmas.Result.{err_from_is_err_and}
use Rattle.gx_machine.specs.declared.call.Call.TheVariants.{Search}
use Rattle.gx_machine.specs.Keys.{key_matches, keys}
use Rattle.gx_node.specs.Reading.{format_of, is_node}
use Rattle.gx_recovery.proofs.Tests.{and_second}
use Rattle.gx_store.specs.State.{IsInOrder}
use Rattle.gx_tree.specs.declared.look.Look.{Look}
use Rattle.gx_tree.specs.Wants.{wants}
use Rattle.gx_phases.specs.States.{IsKept, phase_at}
use Rattle.gx_disk.specs.declared.layout.TheConstants.{MAX_PAGES}
use Rattle.gx_storage.specs.State.{Volume}
use Rattle.gx_engine.specs.declared.work.Work.TheVariants.{Looks}
use Rattle.gx_engine.specs.Looks.{IsFirstUnless, work_before}
use Rattle.gx_engine.specs.Moves.{calling}
use Rattle.gx_engine.specs.States.{Parts}
use Rattle.gx_engine.proofs.AtWork.{put_phase, read_before, same_look}
use Rattle.gx_engine.proofs.searches.Moves.{stop_search}
use Rattle.gx_engine.proofs.Further.{hand_on, read_there}
use Rattle.gx_engine.proofs.LookMoves.{same_events}
use Rattle.gx_engine.proofs.Reading.{read_at_hand}
use Rattle.gx_engine.proofs.engine.Engine.read_on.Goals as goal

pub read_look-read-requires-clause-looks : goal.read_look-read-requires-clause-looks
read_look-read-requires-clause-looks g c =
    (Search c.args.query.now, c.requires.looks.0, c.requires.looks.1, c.requires.looks.2, c.requires.looks.3)

pub returns-then-done-clause-goes_on : goal.returns-then-done-clause-goes_on
returns-then-done-clause-goes_on g c look at =
    let e : Parts g.row.K-Key.Denot g.row.D.Denot = c.args.self.now in
    let k = keys g.K.Key.Ord.cmp g.K.Key.Shape.overlap g.K.Key.Shape.inside in
    let kept = subst (λ (x : Parts g.row.K-Key.Denot g.row.D.Denot). IsKept k x.sessions) c.self.view_is c.stands.ensures in
    let it = c.in_ok-done.ensures.reads (Search c.args.query.now) look at in
    let none : length it.after.stack.items ≡ 0 = (let ends = it.ends in search (arith, rules)) in (
      record {
        look = it.after;
        done = none;
        at = put_phase c.args.session e k kept c.requires.session (Search c.args.query.now) (Looks it.after) c.read_look-read.new.self it.only;
        only = it.only;
      },
      λ l.
          let did = c.in_ok-done.ensures.unlogged in
          let order = subst (λ (x : Parts g.row.K-Key.Denot g.row.D.Denot).
          IsInOrder (is_node (format_of g.K.KeyClass) x.volume.shelf.pages) (g.D.SectorDisk.state x.volume.shelf.disk).sectors x.volume.shelf.frames x.volume.shelf.used x.volume.shelf.pages)
          c.self-2.view_is c.in_order.ensures in
          let small : e.volume.shelf.pages ≤ MAX_PAGES = subst (λ (n : ℕ). n ≤ MAX_PAGES) (did.since 0).goes_on.pages order.few in
          let few = subst (λ (x : Parts g.row.K-Key.Denot g.row.D.Denot). x.volume.most ≤ 100) c.self.view_is c.most.ensures.few in
          let one = same_look (phase_at (c.args.session - 1) e.sessions.phases) (Search c.args.query.now) (Search c.args.query.now) c.requires.looks.0 look c.requires.looks.1 at in
          let more = subst (λ (x : Look g.row.K-Key.Denot). 0 < length x.stack.items) one c.requires.looks.2 in
          let first = subst (λ (x : Look g.row.K-Key.Denot). IsFirstUnless c.args.begun e x) one c.requires.looks.3 in
          let it = c.in_ok-done.ensures.reads (Search c.args.query.now) look at in
          let takes = wants g.K.Probing.passes c.matching-wanted.result.keys c.matching-wanted.result.row in
          let leads = g.K.Probing.passes c.matching-wanted.result.bounds in
          let w : Volume g.row.D.Denot = c.read_look-read.new.self.volume in
          let on = hand_on _ (c.a_class_is_lawful.ensures l) _ _ _ (g.D.SectorDisk.state e.volume.shelf.disk) e kept c.args.session c.requires.session (Search c.args.query.now) (Looks look) at
          look tt small few c.args.begun first (g.D.SectorDisk.state w.shelf.disk) _
          (read_at_hand _ (c.a_class_is_lawful.ensures l) _ _ _ g.D.SectorDisk.state
          e kept c.args.session c.requires.session (Search c.args.query.now) (Looks look) at look c.requires.works
          w did.most did.log (did.since 0).goes_on.device (did.keeps l) (c.a_volume_shows_the_logs_tree.ensures l w) g.K.KeyClass.is_key (c.a_volume_shows_keys.ensures l w)
          order takes leads (g.K.KeyClass.may_match c.args.query.now) c.matching-wanted.ensures.pairs c.matching-wanted.ensures.bounds
          (λ x b isx isb wanted covers. g.met.K.KeyClass.match_is_consistent c.args.query.now x.key b isx isb (and_second (not x.marked) (key_matches k c.args.query.now x.key) wanted) covers)
          it.after more it.step tt) in
          let moved = read_there _ _ _ _ _ _ c.args.session (Search c.args.query.now) (Looks it.after) _ e c.read_look-read.new.self it.only on in
          moved,
    )

pub returns-clause-comes : goal.returns-clause-comes
returns-clause-comes g c look at =
    let e : Parts g.row.K-Key.Denot g.row.D.Denot = c.args.self.now in
    let it = c.in_ok-done.ensures.reads (Search c.args.query.now) look at in
    let some : 0 < length it.after.stack.items = (let ends = it.ends in search (arith, rules)) in
    (it.after, some, read_before c.args.session (Search c.args.query.now) (work_before c.args.begun look) (Looks it.after) e c.read_look-read.new.self it.only)

pub returns-clause-moves : goal.returns-clause-moves
returns-clause-moves g c look at l =
    let e : Parts g.row.K-Key.Denot g.row.D.Denot = c.args.self.now in
    let k = keys g.K.Key.Ord.cmp g.K.Key.Shape.overlap g.K.Key.Shape.inside in
    let kept = subst (λ (x : Parts g.row.K-Key.Denot g.row.D.Denot). IsKept k x.sessions) c.self.view_is c.stands.ensures in
    let did = c.in_ok-done.ensures.unlogged in
    let order = subst (λ (x : Parts g.row.K-Key.Denot g.row.D.Denot).
    IsInOrder (is_node (format_of g.K.KeyClass) x.volume.shelf.pages) (g.D.SectorDisk.state x.volume.shelf.disk).sectors x.volume.shelf.frames x.volume.shelf.used x.volume.shelf.pages)
    c.self-2.view_is c.in_order.ensures in
    let small : e.volume.shelf.pages ≤ MAX_PAGES = subst (λ (n : ℕ). n ≤ MAX_PAGES) (did.since 0).goes_on.pages order.few in
    let few = subst (λ (x : Parts g.row.K-Key.Denot g.row.D.Denot). x.volume.most ≤ 100) c.self.view_is c.most.ensures.few in
    let one = same_look (phase_at (c.args.session - 1) e.sessions.phases) (Search c.args.query.now) (Search c.args.query.now) c.requires.looks.0 look c.requires.looks.1 at in
    let more = subst (λ (x : Look g.row.K-Key.Denot). 0 < length x.stack.items) one c.requires.looks.2 in
    let first = subst (λ (x : Look g.row.K-Key.Denot). IsFirstUnless c.args.begun e x) one c.requires.looks.3 in
    let it = c.in_ok-done.ensures.reads (Search c.args.query.now) look at in
    let takes = wants g.K.Probing.passes c.matching-wanted.result.keys c.matching-wanted.result.row in
    let leads = g.K.Probing.passes c.matching-wanted.result.bounds in
    let w : Volume g.row.D.Denot = c.read_look-read.new.self.volume in
    let on = hand_on _ (c.a_class_is_lawful.ensures l) _ _ _ (g.D.SectorDisk.state e.volume.shelf.disk) e kept c.args.session c.requires.session (Search c.args.query.now) (Looks look) at
    look tt small few c.args.begun first (g.D.SectorDisk.state w.shelf.disk) _
    (read_at_hand _ (c.a_class_is_lawful.ensures l) _ _ _ g.D.SectorDisk.state
    e kept c.args.session c.requires.session (Search c.args.query.now) (Looks look) at look c.requires.works
    w did.most did.log (did.since 0).goes_on.device (did.keeps l) (c.a_volume_shows_the_logs_tree.ensures l w) g.K.KeyClass.is_key (c.a_volume_shows_keys.ensures l w)
    order takes leads (g.K.KeyClass.may_match c.args.query.now) c.matching-wanted.ensures.pairs c.matching-wanted.ensures.bounds
    (λ x b isx isb wanted covers. g.met.K.KeyClass.match_is_consistent c.args.query.now x.key b isx isb (and_second (not x.marked) (key_matches k c.args.query.now x.key) wanted) covers)
    it.after more it.step tt) in
    let moved = read_there _ _ _ _ _ _ c.args.session (Search c.args.query.now) (Looks it.after) _ e c.read_look-read.new.self it.only on in
    λ bodies i h. (moved bodies i h).0

pub returns-in_err-done-clause-comes : goal.returns-in_err-done-clause-comes
returns-in_err-done-clause-comes g c =
    let p = err_from_is_err_and c.from_residual.result c.from_residual.ensures.1 in
    rw (p.1, p.2) (λ look at.
    let old : Parts g.row.K-Key.Denot g.row.D.Denot = calling c.args.session (Search c.args.query.now) (work_before c.args.begun look) c.args.self.now in
    (stop_search (is_node (format_of g.K.KeyClass)) _ _ c.args.session c.args.query.now old
    c.read_look-read.new.self c.in_err-done.field-0.0 (c.in_err-done.ensures.stops (Search c.args.query.now) look at)).0)

pub returns-in_err-done-clause-moves : goal.returns-in_err-done-clause-moves
returns-in_err-done-clause-moves g c =
    let p = err_from_is_err_and c.from_residual.result c.from_residual.ensures.1 in
    rw (p.1, p.2) (λ look at l.
    let old : Parts g.row.K-Key.Denot g.row.D.Denot = calling c.args.session (Search c.args.query.now) (work_before c.args.begun look) c.args.self.now in
    same_events _ _ _ _ _ _ c.args.session _ c.read_look-read.new.self c.in_err-done.field-0.0 _ _
    (stop_search (is_node (format_of g.K.KeyClass)) _ _ c.args.session c.args.query.now old
    c.read_look-read.new.self c.in_err-done.field-0.0 (c.in_err-done.ensures.stops (Search c.args.query.now) look at)).1
    (c.in_err-done.ensures.moves (Search c.args.query.now) look at tt l))
