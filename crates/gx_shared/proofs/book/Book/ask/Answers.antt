use Rattle.std.proofs.Common.{arith, ◌≡◌, ◌+◌, ◌++◌, ◌∷◌, [], ℕ, List, refl, sym, ◌∙◌, ap, subst, vec_capacity}
use Rattle.gx_geom.specs.declared.refusal.Refusal.TheVariants as refusal
use Rattle.gx_machine.specs.declared.item.Item.{Item}
use Rattle.gx_machine.specs.declared.item.Item.TheVariants.{Asked, Replied}
use Rattle.gx_machine.specs.declared.reply.Reply.{Reply}
use Rattle.gx_machine.specs.Keys.{keys}
use Rattle.gx_machine.specs.Machine.{newest}
use Rattle.gx_events.specs.declared.event.Event.TheVariants.{Ask}
use Rattle.gx_events.specs.declared.outcome.Outcome.{Outcome}
use Rattle.gx_events.specs.declared.outcome.Outcome.TheVariants as outcome
use Rattle.gx_events.specs.Happens.{AskHappens}
use Rattle.gx_events.specs.Work.{replied}
use Rattle.gx_shared.specs.Calls.{HasRoom}
use Rattle.gx_shared.specs.Books.{IsHold, IsMade, is_made}
use Rattle.gx_shared.proofs.Opening.{asked_more, ask_finds_none, asked_stays_open, handed_same}
use Rattle.gx_shared.proofs.book.Keeping.{kept_ask, hold_ask, hold_lacks_room, total_fits, two_items, counted_on, fits_on}
use Rattle.gx_shared.proofs.book.Made.{asked_alone, told_alone}
use Rattle.gx_shared.proofs.book.Book.ask.Goals as goal

pub returns-then-not-has_room-clause-hold : goal.returns-then-not-has_room-clause-hold
returns-then-not-has_room-clause-hold g c =
    let k = (keys g.B.Ord.cmp g.B.Shape.overlap g.B.Shape.inside) in
    let s = c.number-number.result in
    rw (← c.self.view_is) (λ granted.
    let f = c.self.invariant.facts granted in
    let opened_is = f.book.opened_is in
    let lacks : HasRoom c.self.inside.calls.items f.book.machine → ⊥ = λ room. c.if-not-has_room.ensures (omega (arith, room, c.len.ensures, opened_is)) in
    subst (λ (t : ℕ). IsHold k g.E.Events.sees (c.self.inside.engine, c.self.inside.calls.items) (Ask t c.args.call) (outcome.Refused refusal.HistoryFull) (c.self.inside.engine, c.self.inside.calls.items)) c.number-number.ensures
    (hold_lacks_room k g.E.Events.sees f.start c.self.inside.engine c.self.inside.calls.items c.self.inside.opened (vec_capacity c.self.inside.calls) c.self.inside.tally.total f.book s c.args.call lacks))

pub keep_reply-reply-requires-clause-few : goal.keep_reply-reply-requires-clause-few
keep_reply-reply-requires-clause-few g c = total_fits c.self.inside.calls.items c.self.inside.tally.total c.self.invariant.counted_is c.self.invariant.fits

pub invariant_of-self : goal.invariant_of-self
invariant_of-self g c =
    let k = (keys g.B.Ord.cmp g.B.Shape.overlap g.B.Shape.inside) in
    let kept = c.self.invariant in
    let s = c.number-number.result in
    let r = c.keep_reply-reply.result in
    let calls_are = two_items c.self.inside.calls.items c.append.new.calls.items c.keep_reply-reply.new.calls.items s c.args.session.now.0.0 c.args.call r
    c.append.ensures.items c.keep_reply-reply.ensures.items c.number-number.ensures in
    let capacity = kept.has_capacity in
    record {
      fits = fits_on c.self.inside.calls.items (Asked s c.args.call ∷ Replied s r ∷ []) c.keep_reply-reply.new.calls.items calls_are (omega (arith, c.if-not-has_room.ensures, c.len.ensures));
      has_capacity = omega (arith, capacity, c.append.ensures.capacity, c.keep_reply-reply.ensures.capacity);
      counted_is = counted_on c.self.inside.calls.items (Asked s c.args.call ∷ Replied s r ∷ []) c.keep_reply-reply.new.calls.items c.self.inside.tally.total 1
          c.keep_reply-reply.new.tally.total calls_are kept.counted_is refl c.keep_reply-reply.ensures.counted;
      facts = λ granted.
          let f = kept.facts granted in
          let b = f.book in
          let w = c.step.ensures.happens b.machine b.seen in
          let happens : AskHappens k s c.args.call b.machine (outcome.Replied c.in-Ok.reply) w.0 = subst (λ (o : Outcome g.row.B.Denot). AskHappens k s c.args.call b.machine o w.0) c.in-Ok.ensures w.1 in
          let same : r ≡ c.in-Ok.reply = handed_same k c.in-Ok.reply r c.keep_reply-reply.ensures.handed (ask_finds_none k s c.args.call c.in-Ok.reply b.machine w.0 happens b.eight) in
          let room : HasRoom c.self.inside.calls.items b.machine = (let a = b.opened_is in omega (arith, c.if-not-has_room.ensures, c.len.ensures, a)) in
          record {
            start = f.start;
            at = f.at;
            book = kept_ask k g.E.Events.sees f.start c.self.inside.engine c.self.inside.calls.items c.self.inside.opened (vec_capacity c.self.inside.calls) c.self.inside.tally.total b
                s c.args.call (outcome.Replied r) w.0 c.step.new.self c.keep_reply-reply.new.calls.items c.self.inside.opened (vec_capacity c.keep_reply-reply.new.calls) c.keep_reply-reply.new.tally.total
                room (subst (λ (x : Reply g.row.B.Denot). AskHappens k s c.args.call b.machine (outcome.Replied x) w.0) (sym same) happens) w.2
                calls_are (omega arith) (omega (arith, c.append.ensures.capacity, c.keep_reply-reply.ensures.capacity)) c.keep_reply-reply.ensures.counted;
          };
    }

pub invariant_of-self-in-Err : goal.invariant_of-self-in-Err
invariant_of-self-in-Err g c =
    let k = (keys g.B.Ord.cmp g.B.Shape.overlap g.B.Shape.inside) in
    let kept = c.self.invariant in
    let s = c.number-number.result in
    let none : replied c.in-Err.outcome ≡ 0 = c.in-Err.ensures.1 in
    let capacity = kept.has_capacity in
    record {
      fits = fits_on c.self.inside.calls.items (Asked s c.args.call ∷ []) c.append-in-Err.new.calls.items c.append-in-Err.ensures.items (omega (arith, c.if-not-has_room.ensures, c.len.ensures));
      has_capacity = omega (arith, capacity, c.append-in-Err.ensures.capacity);
      counted_is = counted_on c.self.inside.calls.items (Asked s c.args.call ∷ []) c.append-in-Err.new.calls.items c.self.inside.tally.total 0
          c.self.inside.tally.total c.append-in-Err.ensures.items kept.counted_is refl (omega arith);
      facts = λ granted.
          let f = kept.facts granted in
          let b = f.book in
          let w = c.step.ensures.happens b.machine b.seen in
          let happens : AskHappens k s c.args.call b.machine c.in-Err.outcome w.0 = subst (λ (o : Outcome g.row.B.Denot). AskHappens k s c.args.call b.machine o w.0) c.in-Err.ensures.0 w.1 in
          let stays = asked_stays_open k s c.args.call c.in-Err.outcome b.machine w.0 (newest b.machine) (newest w.0) happens none in
          let more : asked_more c.in-Err.outcome ≡ 1 = stays.0 in
          let room : HasRoom c.self.inside.calls.items b.machine = (let a = b.opened_is in omega (arith, c.if-not-has_room.ensures, c.len.ensures, a)) in
          record {
            start = f.start;
            at = f.at;
            book = kept_ask k g.E.Events.sees f.start c.self.inside.engine c.self.inside.calls.items c.self.inside.opened (vec_capacity c.self.inside.calls) c.self.inside.tally.total b
                s c.args.call c.in-Err.outcome w.0 c.step.new.self c.append-in-Err.new.calls.items (c.self.inside.opened + 1) (vec_capacity c.append-in-Err.new.calls) c.self.inside.tally.total
                room happens w.2
                (c.append-in-Err.ensures.items ∙ ap (λ (ys : List (Item g.row.B.Denot)). c.self.inside.calls.items ++ ys) (sym stays.1))
                (omega (arith, more)) c.append-in-Err.ensures.capacity (omega (arith, none));
          };
    }

pub returns-in-Ok-clause-hold : goal.returns-in-Ok-clause-hold
returns-in-Ok-clause-hold g c =
    let k = (keys g.B.Ord.cmp g.B.Shape.overlap g.B.Shape.inside) in
    let s = c.number-number.result in
    let r = c.keep_reply-reply.result in
    rw (← c.self.view_is) (λ granted.
    let f = c.self.invariant.facts granted in
    let b = f.book in
    let w = c.step.ensures.happens b.machine b.seen in
    let happens : AskHappens k s c.args.call b.machine (outcome.Replied c.in-Ok.reply) w.0 = subst (λ (o : Outcome g.row.B.Denot). AskHappens k s c.args.call b.machine o w.0) c.in-Ok.ensures w.1 in
    let same : r ≡ c.in-Ok.reply = handed_same k c.in-Ok.reply r c.keep_reply-reply.ensures.handed (ask_finds_none k s c.args.call c.in-Ok.reply b.machine w.0 happens b.eight) in
    let room : HasRoom c.self.inside.calls.items b.machine = (let a = b.opened_is in omega (arith, c.if-not-has_room.ensures, c.len.ensures, a)) in
    subst (λ (t : ℕ). IsHold k g.E.Events.sees (c.self.inside.engine, c.self.inside.calls.items) (Ask t c.args.call) (outcome.Replied r) (c.step.new.self, c.keep_reply-reply.new.calls.items)) c.number-number.ensures
    (hold_ask k g.E.Events.sees f.start c.self.inside.engine c.self.inside.calls.items c.self.inside.opened (vec_capacity c.self.inside.calls) c.self.inside.tally.total b
    s c.args.call (outcome.Replied r) w.0 c.step.new.self c.keep_reply-reply.new.calls.items
    room (subst (λ (x : Reply g.row.B.Denot). AskHappens k s c.args.call b.machine (outcome.Replied x) w.0) (sym same) happens) w.2
    (two_items c.self.inside.calls.items c.append.new.calls.items c.keep_reply-reply.new.calls.items s c.args.session.now.0.0 c.args.call r c.append.ensures.items c.keep_reply-reply.ensures.items c.number-number.ensures)))

pub returns-in-Ok-clause-made : goal.returns-in-Ok-clause-made
returns-in-Ok-clause-made g c =
    let s = c.number-number.result in
    let r = c.keep_reply-reply.result in
    rw (← c.self.view_is)
    (subst (λ (t : ℕ). IsMade g.E.Events.makes (c.self.inside.engine, c.self.inside.calls.items) (Ask t c.args.call) (outcome.Replied r) (c.step.new.self, c.keep_reply-reply.new.calls.items)) c.number-number.ensures
    (is_made (outcome.Replied c.in-Ok.reply)
    (subst (λ (o : Outcome g.row.B.Denot). g.E.Events.makes c.self.inside.engine (Ask s c.args.call) o c.step.new.self) c.in-Ok.ensures c.step.ensures.made)
    c.keep_reply-reply.ensures.handed
    (two_items c.self.inside.calls.items c.append.new.calls.items c.keep_reply-reply.new.calls.items s c.args.session.now.0.0 c.args.call r c.append.ensures.items c.keep_reply-reply.ensures.items c.number-number.ensures)))

pub returns-in-Err-clause-hold : goal.returns-in-Err-clause-hold
returns-in-Err-clause-hold g c =
    let k = (keys g.B.Ord.cmp g.B.Shape.overlap g.B.Shape.inside) in
    let s = c.number-number.result in
    rw (← c.self.view_is) (λ granted.
    let f = c.self.invariant.facts granted in
    let b = f.book in
    let w = c.step.ensures.happens b.machine b.seen in
    let happens : AskHappens k s c.args.call b.machine c.in-Err.outcome w.0 = subst (λ (o : Outcome g.row.B.Denot). AskHappens k s c.args.call b.machine o w.0) c.in-Err.ensures.0 w.1 in
    let stays = asked_stays_open k s c.args.call c.in-Err.outcome b.machine w.0 (newest b.machine) (newest w.0) happens c.in-Err.ensures.1 in
    let room : HasRoom c.self.inside.calls.items b.machine = (let a = b.opened_is in omega (arith, c.if-not-has_room.ensures, c.len.ensures, a)) in
    subst (λ (t : ℕ). IsHold k g.E.Events.sees (c.self.inside.engine, c.self.inside.calls.items) (Ask t c.args.call) c.in-Err.outcome (c.step.new.self, c.append-in-Err.new.calls.items)) c.number-number.ensures
    (hold_ask k g.E.Events.sees f.start c.self.inside.engine c.self.inside.calls.items c.self.inside.opened (vec_capacity c.self.inside.calls) c.self.inside.tally.total b
    s c.args.call c.in-Err.outcome w.0 c.step.new.self c.append-in-Err.new.calls.items
    room happens w.2
    (c.append-in-Err.ensures.items ∙ ap (λ (ys : List (Item g.row.B.Denot)). c.self.inside.calls.items ++ ys) (sym stays.1))))

pub returns-in-Err-clause-made : goal.returns-in-Err-clause-made
returns-in-Err-clause-made g c =
    let s = c.number-number.result in
    let o = c.in-Err.outcome in
    rw (← c.self.view_is)
    (subst (λ (t : ℕ). IsMade g.E.Events.makes (c.self.inside.engine, c.self.inside.calls.items) (Ask t c.args.call) o (c.step.new.self, c.append-in-Err.new.calls.items)) c.number-number.ensures
    (is_made o
    (subst (λ (x : Outcome g.row.B.Denot). g.E.Events.makes c.self.inside.engine (Ask s c.args.call) x c.step.new.self) c.in-Err.ensures.0 c.step.ensures.made)
    (told_alone o c.in-Err.ensures.1)
    (asked_alone c.self.inside.calls.items c.append-in-Err.new.calls.items s c.args.call o c.in-Err.ensures.1 c.append-in-Err.ensures.items)))
