use Rattle.std.proofs.Common.{◌≡◌, suc, ℕ, List, [], ◌∷◌, sym, ap, refl, ◌∙◌, Ok, Err, rules, arith}
use Rattle.std.proofs.lemmas.Result.{err_from_is_err_and}
use Rattle.gx_node.specs.Reading.{format_of, is_node}
use Rattle.gx_record.specs.declared.sizes.TheConstants.{SPLIT_RECORD}
use Rattle.gx_tree.specs.Calls.{TellsRootSplit}
use Rattle.gx_storage.specs.Changes.{has_room}
use Rattle.gx_storage.specs.State.{Volume, volume}
use Rattle.gx_storage.proofs.Recording.{nodes_of}
use Rattle.gx_storage.proofs.Splitting.{all_own, begun_long, begun_pages, logged_these, no_root, root_stamped, root_stepped, store_begun}
use Rattle.gx_storage.proofs.Writing.{begun_is, takes_then, on_err, over_begun, steady_begun, unlogged, unstepped}
use Rattle.gx_storage.proofs.storage.Storage.split_root.Goals as goal

pub returns-then-used-eq0-clause-unlogged : goal.returns-then-used-eq0-clause-unlogged
returns-then-used-eq0-clause-unlogged g c =
    let i = c.self.inside in
    let f = format_of g.K.KeyClass in
    let state = g.D.SectorDisk.state in
    let v : Volume g.row.D.Denot = volume i.journal i.store i.most in
    let u = c.begin_event.new.store in
    let is = begun_is v u SPLIT_RECORD _ c.begin_event.ensures refl in
    let since = unstepped (is_node f) state v SPLIT_RECORD u u is (λ was q since. since) in
    rw (← c.self.view_is) (unlogged _ _ f (is_node f) state v SPLIT_RECORD u since (λ steady. store_begun f state v SPLIT_RECORD u is))

pub returns-in_err-split-clause-unlogged : goal.returns-in_err-split-clause-unlogged
returns-in_err-split-clause-unlogged g c =
    let i = c.self.inside in
    let f = format_of g.K.KeyClass in
    let state = g.D.SectorDisk.state in
    let v : Volume g.row.D.Denot = volume i.journal i.store i.most in
    let u = c.begin_event.new.store in
    let t = c.split_root_step.new.pages in
    let is = begun_is v u SPLIT_RECORD _ c.begin_event.ensures refl in
    let since = unstepped (is_node f) state v SPLIT_RECORD t u is c.in_err-split.ensures.kept in
    rw (← c.self.view_is) (on_err _ _ (unlogged _ _ f (is_node f) state v SPLIT_RECORD t since
    (λ steady. c.in_err-split.ensures.tells.refused (steady_begun (is_node f) state v SPLIT_RECORD t u is steady) ∙ store_begun f state v SPLIT_RECORD u is)))

pub split-requires-clause-takes : goal.split-requires-clause-takes
split-requires-clause-takes g c =
    let i = c.self.inside in
    let f = format_of g.K.KeyClass in
    let state = g.D.SectorDisk.state in
    let v : Volume g.row.D.Denot = volume i.journal i.store i.most in
    let u = c.begin_event.new.store in
    let t = c.split_root_step.new.pages in
    let is = begun_is v u SPLIT_RECORD _ c.begin_event.ensures refl in
    let did = root_stepped (is_node f) state v SPLIT_RECORD t u _ _ (suc i.store.used) (suc (suc i.store.used)) is (ap suc (begun_long f state v SPLIT_RECORD u is)) (ap (λ n. suc (suc n)) (begun_long f state v SPLIT_RECORD u is)) c.in_ok-split.ensures.since in
    let still = rw (← c.self.view_is) at c.requires.still in
    takes_then (is_node f) state v SPLIT_RECORD t (sym did.goes_on.has_room) c.in_ok-split.ensures.changing.0 still

pub returns-clause-own : goal.returns-clause-own
returns-clause-own g c =
    let i = c.self.inside in
    let f = format_of g.K.KeyClass in
    let state = g.D.SectorDisk.state in
    let v : Volume g.row.D.Denot = volume i.journal i.store i.most in
    let u = c.begin_event.new.store in
    let t = c.split_root_step.new.pages in
    let is = begun_is v u SPLIT_RECORD _ c.begin_event.ensures refl in
    let places = c.in_ok-split.ensures.places in
    let split = c.in_ok-split.split in
    let these = ap (λ x. (let xs : List ℕ = 1 ∷ x ∷ split.second ∷ [] in xs)) (places.0 ∙ ap suc (begun_long f state v SPLIT_RECORD u is)) ∙ ap (λ x. (let xs : List ℕ = 1 ∷ suc i.store.used ∷ x ∷ [] in xs)) (places.1 ∙ ap (λ n. suc (suc n)) (begun_long f state v SPLIT_RECORD u is)) in
    rw (← c.self.view_is) (all_own (state t.disk).seen t (1 ∷ split.first ∷ split.second ∷ []) (1 ∷ suc i.store.used ∷ suc (suc i.store.used) ∷ []) these c.split.ensures.given)

pub returns-clause-logged : goal.returns-clause-logged
returns-clause-logged g c =
    let i = c.self.inside in
    let f = format_of g.K.KeyClass in
    let state = g.D.SectorDisk.state in
    let v : Volume g.row.D.Denot = volume i.journal i.store i.most in
    let u = c.begin_event.new.store in
    let t = c.split_root_step.new.pages in
    let is = begun_is v u SPLIT_RECORD _ c.begin_event.ensures refl in
    let did = root_stepped (is_node f) state v SPLIT_RECORD t u _ _ (suc i.store.used) (suc (suc i.store.used)) is (ap suc (begun_long f state v SPLIT_RECORD u is)) (ap (λ n. suc (suc n)) (begun_long f state v SPLIT_RECORD u is)) c.in_ok-split.ensures.since in
    let places = c.in_ok-split.ensures.places in
    let split = c.in_ok-split.split in
    let these = ap (λ x. (let xs : List ℕ = 1 ∷ x ∷ split.second ∷ [] in xs)) (places.0 ∙ ap suc (begun_long f state v SPLIT_RECORD u is)) ∙ ap (λ x. (let xs : List ℕ = 1 ∷ suc i.store.used ∷ x ∷ [] in xs)) (places.1 ∙ ap (λ n. suc (suc n)) (begun_long f state v SPLIT_RECORD u is)) in
    rw (← c.self.view_is) (logged_these _ _ f (is_node f) state v SPLIT_RECORD t (1 ∷ split.first ∷ split.second ∷ []) (1 ∷ suc i.store.used ∷ suc (suc i.store.used) ∷ []) c.split.new.self these did c.split.ensures.given
    (nodes_of f _ _ c.in_order.ensures) c.split.ensures.last)

pub returns-clause-stamped : goal.returns-clause-stamped
returns-clause-stamped g c =
    let i = c.self.inside in
    let f = format_of g.K.KeyClass in
    let state = g.D.SectorDisk.state in
    let v : Volume g.row.D.Denot = volume i.journal i.store i.most in
    let u = c.begin_event.new.store in
    let t = c.split_root_step.new.pages in
    let is = begun_is v u SPLIT_RECORD _ c.begin_event.ensures refl in
    let did = root_stepped (is_node f) state v SPLIT_RECORD t u _ _ (suc i.store.used) (suc (suc i.store.used)) is (ap suc (begun_long f state v SPLIT_RECORD u is)) (ap (λ n. suc (suc n)) (begun_long f state v SPLIT_RECORD u is)) c.in_ok-split.ensures.since in
    rw (← c.self.view_is) (λ steady.
    (let made = c.in_ok-split.ensures.tells.split (steady_begun (is_node f) state v SPLIT_RECORD t u is steady) in
    root_stamped f (is_node f) state v SPLIT_RECORD t _ g.K.KeyClass.sides_of did.goes_on steady u c.in_ok-split.split is c.in_ok-split.ensures.held.0
    (omega (arith, c.if-used-eq0.false, c.used.ensures, begun_long f state v SPLIT_RECORD u is)) made))

pub split-requires-clause-rise : goal.split-requires-clause-rise
split-requires-clause-rise g c =
    let i = c.self.inside in
    let f = format_of g.K.KeyClass in
    let state = g.D.SectorDisk.state in
    let v : Volume g.row.D.Denot = volume i.journal i.store i.most in
    let u = c.begin_event.new.store in
    let t = c.split_root_step.new.pages in
    let is = begun_is v u SPLIT_RECORD _ c.begin_event.ensures refl in
    let places = c.in_ok-split.ensures.places in
    let long = begun_long f state v SPLIT_RECORD u is in
    let some = c.if-used-eq0.false in
    let used = c.used.ensures in
    (omega (arith, some, used, places), omega (arith, places))

pub returns-clause-places : goal.returns-clause-places
returns-clause-places g c =
    let i = c.self.inside in
    let f = format_of g.K.KeyClass in
    let state = g.D.SectorDisk.state in
    let v : Volume g.row.D.Denot = volume i.journal i.store i.most in
    let u = c.begin_event.new.store in
    let t = c.split_root_step.new.pages in
    let is = begun_is v u SPLIT_RECORD _ c.begin_event.ensures refl in
    let places = c.in_ok-split.ensures.places in
    rw (← c.self.view_is) (places.0 ∙ ap suc (begun_long f state v SPLIT_RECORD u is), places.1 ∙ ap (λ n. suc (suc n)) (begun_long f state v SPLIT_RECORD u is))

pub returns-in_err-split-clause-full : goal.returns-in_err-split-clause-full
returns-in_err-split-clause-full g c =
    let i = c.self.inside in
    let f = format_of g.K.KeyClass in
    let state = g.D.SectorDisk.state in
    let v : Volume g.row.D.Denot = volume i.journal i.store i.most in
    let u = c.begin_event.new.store in
    let t = c.split_root_step.new.pages in
    let is = begun_is v u SPLIT_RECORD _ c.begin_event.ensures refl in
    let long = begun_long f state v SPLIT_RECORD u is in
    let pages = begun_pages f state v SPLIT_RECORD u is in
    let told = err_from_is_err_and c.from_residual.result c.from_residual.ensures.1 in
    rw (← c.self.view_is) (λ steady refused. (let full = c.in_err-split.ensures.full (steady_begun (is_node f) state v SPLIT_RECORD t u is steady) (rw (told.1, told.2) at refused) in omega (arith, long, pages, full)))

pub returns-in_err-split-clause-tells : goal.returns-in_err-split-clause-tells
returns-in_err-split-clause-tells g c =
    let i = c.self.inside in
    let f = format_of g.K.KeyClass in
    let state = g.D.SectorDisk.state in
    let failed : c.from_residual.result ≡ Err c.in_err-split.field-0.0 = search rules in
    rw (← c.self.view_is, failed)
    (over_begun f state (TellsRootSplit _ g.K.KeyClass.sides_of g.K.KeyClass.is_key (Err c.in_err-split.field-0.0)) i.store c.begin_event.new.store c.split_root_step.new.pages
    i.journal.log.used (has_room i.journal.log SPLIT_RECORD) c.begin_event.ensures c.in_err-split.ensures.tells)

pub returns-clause-tells : goal.returns-clause-tells
returns-clause-tells g c =
    let i = c.self.inside in
    let f = format_of g.K.KeyClass in
    let state = g.D.SectorDisk.state in
    rw (← c.self.view_is)
    (over_begun f state (TellsRootSplit _ g.K.KeyClass.sides_of g.K.KeyClass.is_key (Ok c.in_ok-split.split)) i.store c.begin_event.new.store c.split_root_step.new.pages
    i.journal.log.used (has_room i.journal.log SPLIT_RECORD) c.begin_event.ensures c.in_ok-split.ensures.tells)

pub returns-then-used-eq0-clause-tells : goal.returns-then-used-eq0-clause-tells
returns-then-used-eq0-clause-tells g c =
    let i = c.self.inside in
    let f = format_of g.K.KeyClass in
    let state = g.D.SectorDisk.state in
    let v : Volume g.row.D.Denot = volume i.journal i.store i.most in
    let u = c.begin_event.new.store in
    let is = begun_is v u SPLIT_RECORD _ c.begin_event.ensures refl in
    let long = begun_long f state v SPLIT_RECORD u is in
    let none : i.store.used ≡ 0 = omega (arith, long, c.used.ensures, c.if-used-eq0.true) in
    rw (← c.self.view_is) (record {
      split = λ steady. tt;
      keys = tt;
      only_full = λ steady. tt;
      refused = λ steady. store_begun f state v SPLIT_RECORD u is;
      damaged = λ steady refused legal full rises. no_root f (state i.store.disk).seen i.store _ none legal;
    })
