use Rattle.std.proofs.Common.{◌≡◌, ℕ, true, false, sym, ap, refl, subst, ◌∙◌, Ok, Err, rules, arith}
use Rattle.gx_node.specs.Reading.{format_of, is_node}
use Rattle.gx_store.specs.Since.{IsSince}
use Rattle.gx_store.specs.Standing.{store_of}
use Rattle.gx_store.specs.State.{IsSteady, Shelf}
use Rattle.gx_tree.specs.Descending.{StepsDown, is_widened}
use Rattle.gx_tree.specs.declared.descent.Descended.{Descended}
use Rattle.gx_tree.specs.Calls.{TellsDescend}
use Rattle.gx_storage.specs.Changes.{begun, has_room}
use Rattle.gx_storage.specs.Imaged.{is_imaged}
use Rattle.gx_storage.specs.Small.{widen_room}
use Rattle.gx_storage.specs.State.{Volume, volume}
use Rattle.gx_storage.proofs.Recording.{nodes_of}
use Rattle.gx_storage.proofs.Giving.{descended_since, has_to_widen, unwidened_narrow, unwidened_stays}
use Rattle.gx_storage.proofs.SmallWidens.{if_narrow, if_wide, logged_widened, not_widened, slot_of_wide}
use Rattle.gx_storage.proofs.Writing.{begun_is, takes_then, on_err, over_begun, stepped, steady_begun, unlogged, unstepped}
use Rattle.gx_storage.proofs.storage.Storage.descend.Goals as goal

pub returns-in_err-way-clause-unlogged : goal.returns-in_err-way-clause-unlogged
returns-in_err-way-clause-unlogged g c =
    let i = c.self.inside in
    let f = format_of g.K.KeyClass in
    let state = g.D.SectorDisk.state in
    let v : Volume g.row.D.Denot = volume i.journal i.store i.most in
    let size = widen_room (is_imaged i.journal.imaged c.args.item.now.page) g.K.KeyClass.KEY in
    let sized : c.widen_size-size.result ≡ size = c.widen_size-size.ensures ∙ ap (λ p. widen_room (is_imaged i.journal.imaged p) g.K.KeyClass.KEY) c.page-page.ensures in
    let t : Shelf g.row.D.Denot = c.read_way.new.store in
    let since = subst {A = ℕ} (λ n. ((q : ℕ) → IsSince (is_node f) (state v.shelf.disk) (state t.disk) (begun v n) t q)) sized c.in_err-way.ensures.since in
    rw (← c.self.view_is) (on_err _ _ (unlogged _ _ f (is_node f) state v size t since (λ steady. c.in_err-way.ensures.same steady)))

pub returns-in-Some-clause-logged : goal.returns-in-Some-clause-logged
returns-in-Some-clause-logged g c =
    let i = c.self.inside in
    let f = format_of g.K.KeyClass in
    let state = g.D.SectorDisk.state in
    let v : Volume g.row.D.Denot = volume i.journal i.store i.most in
    let size = widen_room (is_imaged i.journal.imaged c.args.item.now.page) g.K.KeyClass.KEY in
    let sized : c.widen_size-size.result ≡ size = c.widen_size-size.ensures ∙ ap (λ p. widen_room (is_imaged i.journal.imaged p) g.K.KeyClass.KEY) c.page-page.ensures in
    let t : Shelf g.row.D.Denot = c.read_way.new.store in
    let since = subst {A = ℕ} (λ n. ((q : ℕ) → IsSince (is_node f) (state v.shelf.disk) (state t.disk) (begun v n) t q)) sized c.in_ok-way.ensures.since in
    let narrow = unwidened_narrow c.in_ok-way.way _ c.in-Some.did (sym c.unwidened.ensures ∙ c.in-Some.is) in
    rw (← c.self.view_is) (if_narrow _ _ _ narrow
    (unlogged _ _ f (is_node f) state v size t since (λ steady. c.in_ok-way.ensures.same steady)))

pub returns-in-None-clause-unlogged : goal.returns-in-None-clause-unlogged
returns-in-None-clause-unlogged g c =
    let i = c.self.inside in
    let f = format_of g.K.KeyClass in
    let state = g.D.SectorDisk.state in
    let v : Volume g.row.D.Denot = volume i.journal i.store i.most in
    let size = widen_room (is_imaged i.journal.imaged c.args.item.now.page) g.K.KeyClass.KEY in
    let sized : c.widen_size-size.result ≡ size = c.widen_size-size.ensures ∙ ap (λ p. widen_room (is_imaged i.journal.imaged p) g.K.KeyClass.KEY) c.page-page.ensures in
    let t : Shelf g.row.D.Denot = c.read_way.new.store in
    let since = subst {A = ℕ} (λ n. ((q : ℕ) → IsSince (is_node f) (state v.shelf.disk) (state t.disk) (begun v n) t q)) sized c.in_ok-way.ensures.since in
    rw (← c.self.view_is) (unlogged _ _ f (is_node f) state v size t since (λ steady. c.in_ok-way.ensures.same steady))

pub returns-in-None-clause-room : goal.returns-in-None-clause-room
returns-in-None-clause-room g c =
    let t : Shelf g.row.D.Denot = c.read_way.new.store in
    rw (← c.self.view_is)
    (λ told. has_to_widen g.K.KeyClass.cost g.K.KeyClass.joined c.self.inside.most (store_of (format_of g.K.KeyClass) (g.D.SectorDisk.state t.disk).seen t) c.args.item.now c.args.coming.now c.in_ok-way.way _
    (sym c.unwidened.ensures ∙ c.in-None.is) c.in_ok-way.ensures.way)

pub returns-in_err-did-clause-unlogged : goal.returns-in_err-did-clause-unlogged
returns-in_err-did-clause-unlogged g c =
    let i = c.self.inside in
    let f = format_of g.K.KeyClass in
    let state = g.D.SectorDisk.state in
    let v : Volume g.row.D.Denot = volume i.journal i.store i.most in
    let size = widen_room (is_imaged i.journal.imaged c.args.item.now.page) g.K.KeyClass.KEY in
    let sized : c.widen_size-size.result ≡ size = c.widen_size-size.ensures ∙ ap (λ p. widen_room (is_imaged i.journal.imaged p) g.K.KeyClass.KEY) c.page-page.ensures in
    let u = c.begin_event.new.store in
    let t = c.descend_step.new.pages in
    let is = begun_is v u size _ c.begin_event.ensures sized in
    let since = unstepped (is_node f) state v size t u is c.in_err-did.ensures.writes.kept in
    rw (← c.self.view_is) (on_err _ _ (unlogged _ _ f (is_node f) state v size t since
    (λ steady. c.in_err-did.ensures.tells.refused (steady_begun (is_node f) state v size t u is steady) ∙ ap (λ (x : Shelf g.row.D.Denot). store_of f (state x.disk).seen x) is)))

pub returns-in_default-clause-logged : goal.returns-in_default-clause-logged
returns-in_default-clause-logged g c =
    let i = c.self.inside in
    let f = format_of g.K.KeyClass in
    let state = g.D.SectorDisk.state in
    let v : Volume g.row.D.Denot = volume i.journal i.store i.most in
    let size = widen_room (is_imaged i.journal.imaged c.args.item.now.page) g.K.KeyClass.KEY in
    let sized : c.widen_size-size.result ≡ size = c.widen_size-size.ensures ∙ ap (λ p. widen_room (is_imaged i.journal.imaged p) g.K.KeyClass.KEY) c.page-page.ensures in
    let u = c.begin_event.new.store in
    let t = c.descend_step.new.pages in
    let is = begun_is v u size _ c.begin_event.ensures sized in
    let narrow : is_widened c.in_ok-did.did ≡ false = not_widened c.in_ok-did.did c.in_default.not-Widened in
    let since = unstepped (is_node f) state v size t u is (c.in_ok-did.ensures.writes.spared narrow) in
    rw (← c.self.view_is) (if_narrow _ _ _ narrow (unlogged _ _ f (is_node f) state v size t since
    (λ steady. unwidened_stays g.K.KeyClass.cost g.K.KeyClass.joined i.most _ _ c.args.item.now c.args.coming.now c.in_ok-did.did narrow (c.in_ok-did.ensures.tells.descended (steady_begun (is_node f) state v size t u is steady))
    ∙ ap (λ (x : Shelf g.row.D.Denot). store_of f (state x.disk).seen x) is)))

pub widen-requires-clause-may : goal.widen-requires-clause-may
widen-requires-clause-may g c =
    let i = c.self.inside in
    let f = format_of g.K.KeyClass in
    let state = g.D.SectorDisk.state in
    let v : Volume g.row.D.Denot = volume i.journal i.store i.most in
    let size = widen_room (is_imaged i.journal.imaged c.args.item.now.page) g.K.KeyClass.KEY in
    let sized : c.widen_size-size.result ≡ size = c.widen_size-size.ensures ∙ ap (λ p. widen_room (is_imaged i.journal.imaged p) g.K.KeyClass.KEY) c.page-page.ensures in
    let u = c.begin_event.new.store in
    let t = c.descend_step.new.pages in
    let is = begun_is v u size _ c.begin_event.ensures sized in
    let step = stepped (is_node f) state v size t u c.args.item.now.page is c.in_ok-did.ensures.writes.since in
    let wide : is_widened c.in_ok-did.did ≡ true = ap is_widened c.in-Widened.is in
    let still = rw (← c.self.view_is) at c.requires.still in
    rw c.page-page.ensures (record { takes = takes_then (is_node f) state v size t (sym step.goes_on.has_room) (c.in_ok-did.ensures.changing wide) still; held = c.in_ok-did.ensures.held })

pub widen-requires-clause-slot : goal.widen-requires-clause-slot
widen-requires-clause-slot g c =
    let below = slot_of_wide c.self.inside.most c.in_ok-did.did _ c.in-Widened.slot c.in-Widened.key c.in-Widened.is c.in_ok-did.ensures.slot in
    omega (arith, below, c.self.invariant)

pub returns-clause-logged : goal.returns-clause-logged
returns-clause-logged g c =
    let i = c.self.inside in
    let f = format_of g.K.KeyClass in
    let state = g.D.SectorDisk.state in
    let v : Volume g.row.D.Denot = volume i.journal i.store i.most in
    let size = widen_room (is_imaged i.journal.imaged c.args.item.now.page) g.K.KeyClass.KEY in
    let sized : c.widen_size-size.result ≡ size = c.widen_size-size.ensures ∙ ap (λ p. widen_room (is_imaged i.journal.imaged p) g.K.KeyClass.KEY) c.page-page.ensures in
    let u = c.begin_event.new.store in
    let t = c.descend_step.new.pages in
    let is = begun_is v u size _ c.begin_event.ensures sized in
    let step = stepped (is_node f) state v size t u c.args.item.now.page is c.in_ok-did.ensures.writes.since in
    let wide : is_widened c.in_ok-did.did ≡ true = ap is_widened c.in-Widened.is in
    let down = λ (steady : IsSteady (state v.shelf.disk) v.shelf.frames).
    subst {A = Descended _} (λ did. StepsDown g.K.KeyClass.cost g.K.KeyClass.joined i.most (store_of f (state v.shelf.disk).seen v.shelf) (store_of f (state t.disk).seen t) c.args.item.now c.args.coming.now did) c.in-Widened.is
    (descended_since f state v size u g.K.KeyClass.cost g.K.KeyClass.joined i.most _ c.args.item.now c.args.coming.now c.in_ok-did.did is (c.in_ok-did.ensures.tells.descended (steady_begun (is_node f) state v size t u is steady))) in
    rw (← c.self.view_is) (if_wide _ _ c.in_ok-did.did c.in-Widened.field-0 c.in-Widened.slot c.in-Widened.key c.in-Widened.is
    (logged_widened _ _ f (is_node f) state v size t _ g.K.KeyClass.spelling g.met.K.KeyClass.spelling_length c.inners.ensures.hold (nodes_of f _ _ c.in_order.ensures) (nodes_of f _ _ c.in_order-2.ensures)
    g.K.KeyClass.cost g.K.KeyClass.joined i.most c.args.item.now c.args.coming.now c.in-Widened.field-0 c.in-Widened.slot c.in-Widened.key down
    c.widen.new.self step (rw c.page-page.ensures at c.widen.ensures.given) _ refl (rw c.page-page.ensures at c.widen.ensures.last)))

pub returns-in_err-did-clause-tells : goal.returns-in_err-did-clause-tells
returns-in_err-did-clause-tells g c =
    let i = c.self.inside in
    let f = format_of g.K.KeyClass in
    let state = g.D.SectorDisk.state in
    let failed : c.from_residual-in_err-did.result ≡ Err c.in_err-did.field-0.0 = search rules in
    rw (← c.self.view_is, failed)
    (over_begun f state (TellsDescend g.K.KeyClass.cost g.K.KeyClass.joined i.most c.args.item.now c.args.coming.now (Err c.in_err-did.field-0.0)) i.store c.begin_event.new.store c.descend_step.new.pages
    i.journal.log.used (has_room i.journal.log c.widen_size-size.result) c.begin_event.ensures c.in_err-did.ensures.tells)

pub returns-in_default-clause-tells : goal.returns-in_default-clause-tells
returns-in_default-clause-tells g c =
    let i = c.self.inside in
    let f = format_of g.K.KeyClass in
    let state = g.D.SectorDisk.state in
    rw (← c.self.view_is)
    (over_begun f state (TellsDescend g.K.KeyClass.cost g.K.KeyClass.joined i.most c.args.item.now c.args.coming.now (Ok c.in_ok-did.did)) i.store c.begin_event.new.store c.descend_step.new.pages
    i.journal.log.used (has_room i.journal.log c.widen_size-size.result) c.begin_event.ensures c.in_ok-did.ensures.tells)

pub returns-clause-tells : goal.returns-clause-tells
returns-clause-tells g c =
    let i = c.self.inside in
    let f = format_of g.K.KeyClass in
    let state = g.D.SectorDisk.state in
    rw (← c.self.view_is)
    (over_begun f state (TellsDescend g.K.KeyClass.cost g.K.KeyClass.joined i.most c.args.item.now c.args.coming.now (Ok c.in_ok-did.did)) i.store c.begin_event.new.store c.descend_step.new.pages
    i.journal.log.used (has_room i.journal.log c.widen_size-size.result) c.begin_event.ensures c.in_ok-did.ensures.tells)
