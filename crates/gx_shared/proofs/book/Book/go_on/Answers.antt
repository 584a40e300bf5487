use Rattle.std.proofs.Common.{arith, ◌≡◌, ◌<◌, ◌≤◌, ◌++◌, ◌∷◌, [], ℕ, ◌+◌, List, refl, sym, ◌∙◌, ap, subst, length, vec_capacity}
use Rattle.std.proofs.lemmas.Bool.Decides.{nat_tests}
use Rattle.gx_geom.specs.declared.refusal.Refusal.TheVariants as refusal
use Rattle.gx_machine.specs.declared.item.Item.{Item}
use Rattle.gx_machine.specs.declared.item.Item.TheVariants as item
use Rattle.gx_machine.specs.Keys.{keys}
use Rattle.gx_machine.specs.Machine.{newest}
use Rattle.gx_events.specs.declared.event.Event.TheVariants.{Move}
use Rattle.gx_events.specs.declared.outcome.Outcome.{Outcome}
use Rattle.gx_events.specs.declared.outcome.Outcome.TheVariants as outcome
use Rattle.gx_events.specs.Happens.{MoveHappens, Ends}
use Rattle.gx_events.specs.Items.{items_of, items_sealed}
use Rattle.gx_events.specs.Work.{replied}
use Rattle.gx_shared.specs.Books.{IsHold, IsMade, is_fault, is_made, is_unrecorded}
use Rattle.gx_shared.proofs.Opening.{ended, moved_items, handed_ends}
use Rattle.gx_shared.proofs.book.Keeping.{kept_move, hold_move, hold_full, total_fits, one_more, opened_some, closes_right, sealed_same, sealed_fits, counted_on, sealed_counts}
use Rattle.gx_shared.proofs.book.Made.{moved_alone, told_alone}
use Rattle.gx_shared.proofs.book.Book.go_on.Goals as goal

pub invariant_of-self : goal.invariant_of-self
invariant_of-self g c =
    let k = (keys g.B.Ord.cmp g.B.Shape.overlap g.B.Shape.inside) in
    let kept = c.self.invariant in
    let s = c.number-number.result in
    record {
      fits = kept.fits;
      has_capacity = kept.has_capacity;
      counted_is = kept.counted_is;
      facts = λ granted.
          let f = kept.facts granted in
          let b = f.book in
          let w = c.step.ensures.happens b.machine b.seen in
          let given : Ends k s c.in-Ok.reply b.machine w.0 = subst (λ (o : Outcome g.row.B.Denot). MoveHappens k s b.machine o w.0) c.in-Ok.ensures w.1 in
          let full : 65536 ≤ length c.self.inside.calls.items = grind (arith, nat_tests, c.if-len-ge-RECORD.true, c.len.ensures) in
          record {
            start = f.start;
            at = f.at;
            book = (hold_full k g.E.Events.sees f.start c.self.inside.engine c.self.inside.calls.items c.self.inside.opened (vec_capacity c.self.inside.calls) c.self.inside.tally.total b
                s c.in-Ok.reply w.0 c.step.new.self given w.2 full).1;
          };
    }

pub returns-then-len-ge-RECORD-clause-hold : goal.returns-then-len-ge-RECORD-clause-hold
returns-then-len-ge-RECORD-clause-hold g c =
    let k = (keys g.B.Ord.cmp g.B.Shape.overlap g.B.Shape.inside) in
    let s = c.number-number.result in
    rw (← c.self.view_is) (λ granted.
    let f = c.self.invariant.facts granted in
    let b = f.book in
    let w = c.step.ensures.happens b.machine b.seen in
    let given : Ends k s c.in-Ok.reply b.machine w.0 = subst (λ (o : Outcome g.row.B.Denot). MoveHappens k s b.machine o w.0) c.in-Ok.ensures w.1 in
    let full : 65536 ≤ length c.self.inside.calls.items = grind (arith, nat_tests, c.if-len-ge-RECORD.true, c.len.ensures) in
    subst (λ (t : ℕ). IsHold k g.E.Events.sees (c.self.inside.engine, c.self.inside.calls.items) (Move t) (outcome.Refused refusal.Failed) (c.step.new.self, c.self.inside.calls.items)) c.number-number.ensures
    (hold_full k g.E.Events.sees f.start c.self.inside.engine c.self.inside.calls.items c.self.inside.opened (vec_capacity c.self.inside.calls) c.self.inside.tally.total b
    s c.in-Ok.reply w.0 c.step.new.self given w.2 full).0)

pub returns-then-len-ge-RECORD-clause-made : goal.returns-then-len-ge-RECORD-clause-made
returns-then-len-ge-RECORD-clause-made g c =
    let s = c.number-number.result in
    let full : 65536 ≤ length c.self.inside.calls.items = grind (arith, nat_tests, c.if-len-ge-RECORD.true, c.len.ensures) in
    rw (← c.self.view_is)
    (subst (λ (t : ℕ). IsMade g.E.Events.makes (c.self.inside.engine, c.self.inside.calls.items) (Move t) (outcome.Refused refusal.Failed) (c.step.new.self, c.self.inside.calls.items)) c.number-number.ensures
    (is_unrecorded c.in-Ok.reply
    (subst (λ (o : Outcome g.row.B.Denot). g.E.Events.makes c.self.inside.engine (Move s) o c.step.new.self) c.in-Ok.ensures c.step.ensures.made)
    full refl))

pub keep_reply-reply-requires-clause-few : goal.keep_reply-reply-requires-clause-few
keep_reply-reply-requires-clause-few g c = total_fits c.self.inside.calls.items c.self.inside.tally.total c.self.invariant.counted_is c.self.invariant.fits

pub invariant_of-self-in-Ok : goal.invariant_of-self-in-Ok
invariant_of-self-in-Ok g c =
    let k = (keys g.B.Ord.cmp g.B.Shape.overlap g.B.Shape.inside) in
    let kept = c.self.invariant in
    let s = c.number-number.result in
    let r = c.keep_reply-reply.result in
    let calls_are : c.keep_reply-reply.new.calls.items ≡ c.self.inside.calls.items ++ item.Replied s r ∷ [] = c.keep_reply-reply.ensures.items ∙ ap (λ (t : ℕ). c.self.inside.calls.items ++ item.Replied t r ∷ []) (sym c.number-number.ensures) in
    let room : length c.self.inside.calls.items < 65536 = grind (arith, nat_tests, c.if-len-ge-RECORD.false, c.len.ensures) in
    let few = one_more c.self.inside.calls.items c.keep_reply-reply.new.calls.items (item.Replied s r) calls_are room in
    let capacity = kept.has_capacity in
    record {
      fits = few;
      has_capacity = omega (arith, capacity, c.keep_reply-reply.ensures.capacity);
      counted_is = counted_on c.self.inside.calls.items (item.Replied s r ∷ []) c.keep_reply-reply.new.calls.items c.self.inside.tally.total 1 c.keep_reply-reply.new.tally.total
          calls_are kept.counted_is refl c.keep_reply-reply.ensures.counted;
      facts = λ granted.
          let f = kept.facts granted in
          let b = f.book in
          let w = c.step.ensures.happens b.machine b.seen in
          let given : Ends k s c.in-Ok.reply b.machine w.0 = subst (λ (o : Outcome g.row.B.Denot). MoveHappens k s b.machine o w.0) c.in-Ok.ensures w.1 in
          let ends : Ends k s r b.machine w.0 = (handed_ends k s c.in-Ok.reply r b.machine w.0 c.keep_reply-reply.ensures.handed given).0 in
          let some = opened_some k g.E.Events.sees f.start c.self.inside.engine c.self.inside.calls.items c.self.inside.opened (vec_capacity c.self.inside.calls) c.self.inside.tally.total b s r w.0 ends in
          record {
            start = f.start;
            at = f.at;
            book = kept_move k g.E.Events.sees f.start c.self.inside.engine c.self.inside.calls.items c.self.inside.opened (vec_capacity c.self.inside.calls) c.self.inside.tally.total b
                s (outcome.Replied r) w.0 c.step.new.self c.keep_reply-reply.new.calls.items c.open_after-self-inside.result (vec_capacity c.keep_reply-reply.new.calls) c.keep_reply-reply.new.tally.total
                ends w.2 calls_are few
                (closes_right (is_fault r) c.open_after-self-inside.result c.self.inside.opened c.open_after-self-inside.ensures some)
                c.keep_reply-reply.ensures.capacity c.keep_reply-reply.ensures.counted;
          };
    }

pub append_sealed-requires : goal.append_sealed-requires
append_sealed-requires g c = c.self.invariant.has_capacity

pub invariant_of-self-in-Err : goal.invariant_of-self-in-Err
invariant_of-self-in-Err g c =
    let k = (keys g.B.Ord.cmp g.B.Shape.overlap g.B.Shape.inside) in
    let kept = c.self.invariant in
    let s = c.number-number.result in
    let none : replied c.in-Err.outcome ≡ 0 = c.in-Err.ensures.1 in
    let capacity = kept.has_capacity in
    record {
      fits = c.append_sealed.ensures.fits kept.fits;
      has_capacity = omega (arith, capacity, c.append_sealed.ensures.capacity);
      counted_is = sealed_counts c.self.inside.calls.items c.append_sealed.new.calls.items s c.commits-after.result c.self.inside.tally.total c.append_sealed.ensures.adds kept.counted_is;
      facts = λ granted.
          let f = kept.facts granted in
          let b = f.book in
          let w = c.step.ensures.happens b.machine b.seen in
          let happens : MoveHappens k s b.machine c.in-Err.outcome w.0 = subst (λ (o : Outcome g.row.B.Denot). MoveHappens k s b.machine o w.0) c.in-Err.ensures.0 w.1 in
          let few = sealed_fits k g.E.Events.sees f.start c.self.inside.engine c.self.inside.calls.items c.self.inside.opened (vec_capacity c.self.inside.calls) c.self.inside.tally.total b s c.in-Err.outcome w.0 happens none in
          let same : items_sealed {B = g.row.B.Denot} s c.commits-before.result c.commits-after.result ≡ items_sealed s (newest b.machine) (newest w.0) =
          sealed_same s c.commits-before.result c.commits-after.result (newest b.machine) (newest w.0) (c.commits-before.ensures b.machine b.seen) (c.commits-after.ensures w.0 w.2) in
          let moved = moved_items k s (newest b.machine) (newest w.0) c.in-Err.outcome none in
          let fits = subst (λ (ys : List (Item g.row.B.Denot)). length c.self.inside.calls.items + length ys ≤ 65536) (sym same) few in
          let calls_are : c.append_sealed.new.calls.items ≡ c.self.inside.calls.items ++ items_of (newest b.machine) (newest w.0) (Move s) c.in-Err.outcome =
          c.append_sealed.ensures.items fits ∙ ap (λ (ys : List (Item g.row.B.Denot)). c.self.inside.calls.items ++ ys) (same ∙ sym moved.0) in
          let open_still : ended c.in-Err.outcome ≡ 0 = moved.1 in
          record {
            start = f.start;
            at = f.at;
            book = kept_move k g.E.Events.sees f.start c.self.inside.engine c.self.inside.calls.items c.self.inside.opened (vec_capacity c.self.inside.calls) c.self.inside.tally.total b
                s c.in-Err.outcome w.0 c.step.new.self c.append_sealed.new.calls.items c.self.inside.opened (vec_capacity c.append_sealed.new.calls) c.self.inside.tally.total
                happens w.2 calls_are (c.append_sealed.ensures.fits kept.fits)
                (omega (arith, open_still)) c.append_sealed.ensures.capacity (omega (arith, none));
          };
    }

pub returns-else-len-ge-RECORD-clause-hold : goal.returns-else-len-ge-RECORD-clause-hold
returns-else-len-ge-RECORD-clause-hold g c =
    let k = (keys g.B.Ord.cmp g.B.Shape.overlap g.B.Shape.inside) in
    let s = c.number-number.result in
    let r = c.keep_reply-reply.result in
    let calls_are : c.keep_reply-reply.new.calls.items ≡ c.self.inside.calls.items ++ item.Replied s r ∷ [] = c.keep_reply-reply.ensures.items ∙ ap (λ (t : ℕ). c.self.inside.calls.items ++ item.Replied t r ∷ []) (sym c.number-number.ensures) in
    rw (← c.self.view_is) (λ granted.
    let f = c.self.invariant.facts granted in
    let b = f.book in
    let w = c.step.ensures.happens b.machine b.seen in
    let given : Ends k s c.in-Ok.reply b.machine w.0 = subst (λ (o : Outcome g.row.B.Denot). MoveHappens k s b.machine o w.0) c.in-Ok.ensures w.1 in
    let ends : Ends k s r b.machine w.0 = (handed_ends k s c.in-Ok.reply r b.machine w.0 c.keep_reply-reply.ensures.handed given).0 in
    subst (λ (t : ℕ). IsHold k g.E.Events.sees (c.self.inside.engine, c.self.inside.calls.items) (Move t) (outcome.Replied r) (c.step.new.self, c.keep_reply-reply.new.calls.items)) c.number-number.ensures
    (hold_move k g.E.Events.sees f.start c.self.inside.engine c.self.inside.calls.items c.self.inside.opened (vec_capacity c.self.inside.calls) c.self.inside.tally.total b
    s (outcome.Replied r) w.0 c.step.new.self c.keep_reply-reply.new.calls.items ends w.2 calls_are))

pub returns-else-len-ge-RECORD-clause-made : goal.returns-else-len-ge-RECORD-clause-made
returns-else-len-ge-RECORD-clause-made g c =
    let s = c.number-number.result in
    let r = c.keep_reply-reply.result in
    let calls_are : c.keep_reply-reply.new.calls.items ≡ c.self.inside.calls.items ++ item.Replied s r ∷ [] = c.keep_reply-reply.ensures.items ∙ ap (λ (t : ℕ). c.self.inside.calls.items ++ item.Replied t r ∷ []) (sym c.number-number.ensures) in
    rw (← c.self.view_is)
    (subst (λ (t : ℕ). IsMade g.E.Events.makes (c.self.inside.engine, c.self.inside.calls.items) (Move t) (outcome.Replied r) (c.step.new.self, c.keep_reply-reply.new.calls.items)) c.number-number.ensures
    (is_made (outcome.Replied c.in-Ok.reply)
    (subst (λ (o : Outcome g.row.B.Denot). g.E.Events.makes c.self.inside.engine (Move s) o c.step.new.self) c.in-Ok.ensures c.step.ensures.made)
    c.keep_reply-reply.ensures.handed calls_are))

pub returns-in-Err-clause-hold : goal.returns-in-Err-clause-hold
returns-in-Err-clause-hold g c =
    let k = (keys g.B.Ord.cmp g.B.Shape.overlap g.B.Shape.inside) in
    let s = c.number-number.result in
    let none : replied c.in-Err.outcome ≡ 0 = c.in-Err.ensures.1 in
    rw (← c.self.view_is) (λ granted.
    let f = c.self.invariant.facts granted in
    let b = f.book in
    let w = c.step.ensures.happens b.machine b.seen in
    let happens : MoveHappens k s b.machine c.in-Err.outcome w.0 = subst (λ (o : Outcome g.row.B.Denot). MoveHappens k s b.machine o w.0) c.in-Err.ensures.0 w.1 in
    let few = sealed_fits k g.E.Events.sees f.start c.self.inside.engine c.self.inside.calls.items c.self.inside.opened (vec_capacity c.self.inside.calls) c.self.inside.tally.total b s c.in-Err.outcome w.0 happens none in
    let same : items_sealed {B = g.row.B.Denot} s c.commits-before.result c.commits-after.result ≡ items_sealed s (newest b.machine) (newest w.0) =
    sealed_same s c.commits-before.result c.commits-after.result (newest b.machine) (newest w.0) (c.commits-before.ensures b.machine b.seen) (c.commits-after.ensures w.0 w.2) in
    let moved = moved_items k s (newest b.machine) (newest w.0) c.in-Err.outcome none in
    let fits = subst (λ (ys : List (Item g.row.B.Denot)). length c.self.inside.calls.items + length ys ≤ 65536) (sym same) few in
    let calls_are : c.append_sealed.new.calls.items ≡ c.self.inside.calls.items ++ items_of (newest b.machine) (newest w.0) (Move s) c.in-Err.outcome =
    c.append_sealed.ensures.items fits ∙ ap (λ (ys : List (Item g.row.B.Denot)). c.self.inside.calls.items ++ ys) (same ∙ sym moved.0) in
    subst (λ (t : ℕ). IsHold k g.E.Events.sees (c.self.inside.engine, c.self.inside.calls.items) (Move t) c.in-Err.outcome (c.step.new.self, c.append_sealed.new.calls.items)) c.number-number.ensures
    (hold_move k g.E.Events.sees f.start c.self.inside.engine c.self.inside.calls.items c.self.inside.opened (vec_capacity c.self.inside.calls) c.self.inside.tally.total b
    s c.in-Err.outcome w.0 c.step.new.self c.append_sealed.new.calls.items happens w.2 calls_are))

pub returns-in-Err-clause-made : goal.returns-in-Err-clause-made
returns-in-Err-clause-made g c =
    let s = c.number-number.result in
    let o = c.in-Err.outcome in
    rw (← c.self.view_is)
    (subst (λ (t : ℕ). IsMade g.E.Events.makes (c.self.inside.engine, c.self.inside.calls.items) (Move t) o (c.step.new.self, c.append_sealed.new.calls.items)) c.number-number.ensures
    (is_made o
    (subst (λ (x : Outcome g.row.B.Denot). g.E.Events.makes c.self.inside.engine (Move s) x c.step.new.self) c.in-Err.ensures.0 c.step.ensures.made)
    (told_alone o c.in-Err.ensures.1)
    (moved_alone c.self.inside.calls.items c.append_sealed.new.calls.items s c.commits-after.result o c.in-Err.ensures.1 c.append_sealed.ensures.adds)))
