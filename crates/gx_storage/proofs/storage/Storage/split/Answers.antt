use Rattle.std.proofs.Common.{◌≡◌, suc, sym, ap, refl, ◌∙◌, Ok, Err, None, Some, rules, arith}
use Rattle.std.proofs.lemmas.Result.{err_from_is_err_and}
use Rattle.gx_node.specs.Reading.{format_of, is_node}
use Rattle.gx_store.specs.State.{IsHeld}
use Rattle.gx_record.specs.declared.sizes.TheConstants.{SPLIT_RECORD}
use Rattle.gx_tree.specs.Calls.{TellsSplit}
use Rattle.gx_storage.specs.Changes.{has_room}
use Rattle.gx_storage.specs.Giving.{rising}
use Rattle.gx_storage.specs.State.{Volume, volume}
use Rattle.gx_storage.proofs.Recording.{nodes_of}
use Rattle.gx_storage.proofs.Splitting.{all_own, begun_long, begun_pages, logged_these, rising_each, split_stamped, split_stepped, store_begun}
use Rattle.gx_storage.proofs.Writing.{begun_is, takes_then, on_err, over_begun, steady_begun, unlogged, unstepped}
use Rattle.gx_storage.proofs.storage.Storage.split.Goals as goal

pub returns-in_err-split-clause-unlogged : goal.returns-in_err-split-clause-unlogged
returns-in_err-split-clause-unlogged g c =
    let i = c.self.inside in
    let f = format_of g.K.KeyClass in
    let state = g.D.SectorDisk.state in
    let v : Volume g.row.D.Denot = volume i.journal i.store i.most in
    let u = c.begin_event.new.store in
    let t = c.split_step.new.pages in
    let is = begun_is v u SPLIT_RECORD _ c.begin_event.ensures refl in
    let since = unstepped (is_node f) state v SPLIT_RECORD t u is c.in_err-split.ensures.kept in
    rw (← c.self.view_is) (on_err _ _ (unlogged _ _ f (is_node f) state v SPLIT_RECORD t since
    (λ steady. c.in_err-split.ensures.tells.refused (steady_begun (is_node f) state v SPLIT_RECORD t u is steady) ∙ store_begun f state v SPLIT_RECORD u is)))

pub split-requires-clause-takes : goal.split-requires-clause-takes
split-requires-clause-takes g c =
    let i = c.self.inside in
    let f = format_of g.K.KeyClass in
    let state = g.D.SectorDisk.state in
    let v : Volume g.row.D.Denot = volume i.journal i.store i.most in
    let u = c.begin_event.new.store in
    let t = c.split_step.new.pages in
    let is = begun_is v u SPLIT_RECORD _ c.begin_event.ensures refl in
    let did = split_stepped (is_node f) state v SPLIT_RECORD t u c.args.page c.args.parent _ (suc i.store.used) is (ap suc (begun_long f state v SPLIT_RECORD u is)) c.in_ok-split.ensures.since in
    let changing = rw c.in-Some.is at c.in_ok-split.ensures.changing in
    let still = rw (← c.self.view_is) at c.requires.still in
    takes_then (is_node f) state v SPLIT_RECORD t (sym did.goes_on.has_room) changing.0 still

pub split-requires-clause-held : goal.split-requires-clause-held
split-requires-clause-held g c =
    let held = rw c.in-Some.is at c.in_ok-split.ensures.held in
    rising_each (λ p. IsHeld c.split_step.new.pages p) c.args.page c.args.parent c.in-Some.split.sibling _ _ _ c.in_rising_order-first.ensures.these held.0 held.1 held.2

pub returns-clause-logged : goal.returns-clause-logged
returns-clause-logged g c =
    let i = c.self.inside in
    let f = format_of g.K.KeyClass in
    let state = g.D.SectorDisk.state in
    let v : Volume g.row.D.Denot = volume i.journal i.store i.most in
    let u = c.begin_event.new.store in
    let t = c.split_step.new.pages in
    let is = begun_is v u SPLIT_RECORD _ c.begin_event.ensures refl in
    let did = split_stepped (is_node f) state v SPLIT_RECORD t u c.args.page c.args.parent _ (suc i.store.used) is (ap suc (begun_long f state v SPLIT_RECORD u is)) c.in_ok-split.ensures.since in
    let sibling = rw c.in-Some.is at c.in_ok-split.ensures.sibling in
    let next : c.in-Some.split.sibling ≡ suc i.store.used = sibling ∙ ap suc (begun_long f state v SPLIT_RECORD u is) in
    let these = c.in_rising_order-first.ensures.these ∙ ap (λ p. rising c.args.page c.args.parent p) next in
    rw (← c.self.view_is) (logged_these _ _ f (is_node f) state v SPLIT_RECORD t _ (rising c.args.page c.args.parent (suc i.store.used)) c.split.new.self these did c.split.ensures.given (nodes_of f _ _ c.in_order.ensures)
    c.split.ensures.last)

pub returns-clause-own : goal.returns-clause-own
returns-clause-own g c =
    let i = c.self.inside in
    let f = format_of g.K.KeyClass in
    let state = g.D.SectorDisk.state in
    let v : Volume g.row.D.Denot = volume i.journal i.store i.most in
    let u = c.begin_event.new.store in
    let t = c.split_step.new.pages in
    let is = begun_is v u SPLIT_RECORD _ c.begin_event.ensures refl in
    let sibling = rw c.in-Some.is at c.in_ok-split.ensures.sibling in
    let next : c.in-Some.split.sibling ≡ suc i.store.used = sibling ∙ ap suc (begun_long f state v SPLIT_RECORD u is) in
    let these = c.in_rising_order-first.ensures.these ∙ ap (λ p. rising c.args.page c.args.parent p) next in
    rw (← c.self.view_is) (all_own (state t.disk).seen t _ (rising c.args.page c.args.parent (suc i.store.used)) these c.split.ensures.given)

pub returns-clause-stamped : goal.returns-clause-stamped
returns-clause-stamped g c =
    let i = c.self.inside in
    let f = format_of g.K.KeyClass in
    let state = g.D.SectorDisk.state in
    let v : Volume g.row.D.Denot = volume i.journal i.store i.most in
    let u = c.begin_event.new.store in
    let t = c.split_step.new.pages in
    let is = begun_is v u SPLIT_RECORD _ c.begin_event.ensures refl in
    let did = split_stepped (is_node f) state v SPLIT_RECORD t u c.args.page c.args.parent _ (suc i.store.used) is (ap suc (begun_long f state v SPLIT_RECORD u is)) c.in_ok-split.ensures.since in
    let held = rw c.in-Some.is at c.in_ok-split.ensures.held in
    let apart = rw c.in-Some.is at c.in_ok-split.ensures.tells.apart in
    rw (← c.self.view_is) (λ steady.
    (let made = rw c.in-Some.is at (c.in_ok-split.ensures.tells.split (steady_begun (is_node f) state v SPLIT_RECORD t u is steady)) in
    split_stamped f (is_node f) state v SPLIT_RECORD t _ g.K.KeyClass.sides_of did.goes_on steady u c.args.page c.args.parent c.in-Some.split is held.0 held.1 apart.1 apart.2 made))

pub returns-in_default-clause-logged : goal.returns-in_default-clause-logged
returns-in_default-clause-logged g c =
    let i = c.self.inside in
    let f = format_of g.K.KeyClass in
    let state = g.D.SectorDisk.state in
    let v : Volume g.row.D.Denot = volume i.journal i.store i.most in
    let u = c.begin_event.new.store in
    let t = c.split_step.new.pages in
    let is = begun_is v u SPLIT_RECORD _ c.begin_event.ensures refl in
    let none = rw c.in_default.is at c.in_ok-split.ensures.none in
    let since = unstepped (is_node f) state v SPLIT_RECORD t u is none in
    rw (← c.self.view_is) (unlogged _ _ f (is_node f) state v SPLIT_RECORD t since
    (λ steady. (let stays = rw c.in_default.is at (c.in_ok-split.ensures.tells.split (steady_begun (is_node f) state v SPLIT_RECORD t u is steady)) in stays.0 ∙ store_begun f state v SPLIT_RECORD u is)))

pub returns-in_err-split-clause-full : goal.returns-in_err-split-clause-full
returns-in_err-split-clause-full g c =
    let i = c.self.inside in
    let f = format_of g.K.KeyClass in
    let state = g.D.SectorDisk.state in
    let v : Volume g.row.D.Denot = volume i.journal i.store i.most in
    let u = c.begin_event.new.store in
    let t = c.split_step.new.pages in
    let is = begun_is v u SPLIT_RECORD _ c.begin_event.ensures refl in
    let long = begun_long f state v SPLIT_RECORD u is in
    let pages = begun_pages f state v SPLIT_RECORD u is in
    let told = err_from_is_err_and c.from_residual.result c.from_residual.ensures.1 in
    rw (← c.self.view_is) (λ steady refused. (let full = c.in_err-split.ensures.full (steady_begun (is_node f) state v SPLIT_RECORD t u is steady) (rw (told.1, told.2) at refused) in omega (arith, long, pages, full)))

pub returns-in_err-split-clause-tells : goal.returns-in_err-split-clause-tells
returns-in_err-split-clause-tells g c =
    let i = c.self.inside in
    let f = format_of g.K.KeyClass in
    let state = g.D.SectorDisk.state in
    let failed : c.from_residual.result ≡ Err c.in_err-split.field-0.0 = search rules in
    rw (← c.self.view_is, failed)
    (over_begun f state (TellsSplit _ g.K.KeyClass.sides_of g.K.KeyClass.is_key c.args.page c.args.parent (Err c.in_err-split.field-0.0)) i.store c.begin_event.new.store c.split_step.new.pages
    i.journal.log.used (has_room i.journal.log SPLIT_RECORD) c.begin_event.ensures c.in_err-split.ensures.tells)

pub returns-in_default-clause-tells : goal.returns-in_default-clause-tells
returns-in_default-clause-tells g c =
    let i = c.self.inside in
    let f = format_of g.K.KeyClass in
    let state = g.D.SectorDisk.state in
    rw (← c.self.view_is)
    (over_begun f state (TellsSplit _ g.K.KeyClass.sides_of g.K.KeyClass.is_key c.args.page c.args.parent (Ok None)) i.store c.begin_event.new.store c.split_step.new.pages
    i.journal.log.used (has_room i.journal.log SPLIT_RECORD) c.begin_event.ensures (rw c.in_default.is at c.in_ok-split.ensures.tells))

pub returns-clause-tells : goal.returns-clause-tells
returns-clause-tells g c =
    let i = c.self.inside in
    let f = format_of g.K.KeyClass in
    let state = g.D.SectorDisk.state in
    rw (← c.self.view_is)
    (over_begun f state (TellsSplit _ g.K.KeyClass.sides_of g.K.KeyClass.is_key c.args.page c.args.parent (Ok (Some c.in-Some.split))) i.store c.begin_event.new.store c.split_step.new.pages
    i.journal.log.used (has_room i.journal.log SPLIT_RECORD) c.begin_event.ensures (rw c.in-Some.is at c.in_ok-split.ensures.tells))

pub returns-clause-sibling : goal.returns-clause-sibling
returns-clause-sibling g c =
    let i = c.self.inside in
    let f = format_of g.K.KeyClass in
    let state = g.D.SectorDisk.state in
    let v : Volume g.row.D.Denot = volume i.journal i.store i.most in
    let u = c.begin_event.new.store in
    let t = c.split_step.new.pages in
    let is = begun_is v u SPLIT_RECORD _ c.begin_event.ensures refl in
    let sibling = rw c.in-Some.is at c.in_ok-split.ensures.sibling in
    rw (← c.self.view_is) (sibling ∙ ap suc (begun_long f state v SPLIT_RECORD u is))
