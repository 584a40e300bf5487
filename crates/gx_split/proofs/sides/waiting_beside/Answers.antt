use Rattle.std.proofs.Common.{◌≡◌, true, false, Some, slice_get, length, ap, sym, ◌∙◌, arith, refl}
use Rattle.std.proofs.lemmas.List.{length-append}
use Rattle.std.proofs.lemmas.List.Elements.{All-nil, All-push}
use Rattle.std.proofs.lemmas.Option.{slice_get_read}
use Rattle.gx_split.specs.Split.{measure, pair}
use Rattle.gx_split.specs.Waiting.{IsFresh, IsShort}
use Rattle.gx_split.proofs.Begun.{is_seed, others-none, listed_skips, listed_takes}
use Rattle.gx_split.proofs.sides.waiting_beside.Goals as goal
use Rattle.gx_split.proofs.sides.waiting_beside.Goals.{then-not-is_seed, else-not-is_seed}

pub loop-slot-init : goal.loop-slot-init
loop-slot-init g c =
    let m = measure g.M.Measure.joined g.M.Measure.extent in
    rw c.new_in-waiting.ensures (record {
      slots = sym (others-none (pair c.args.seeds.now.lower c.args.seeds.now.higher));
      fresh = All-nil (IsFresh m c.args.keys.now c.args.covers.now);
      short = All-nil (IsShort g.M.Measure.SHORT);
      few = omega arith;
    })

pub loop-slot-preserved : goal.loop-slot-preserved
loop-slot-preserved g c =
    let m = measure g.M.Measure.joined g.M.Measure.extent in
    let p = pair c.args.seeds.now.lower c.args.seeds.now.higher in
    let was = c.loop-slot.invariant in
    elim c.if-not-is_seed.branch [
      | then-not-is_seed w ↦
          let other : is_seed p c.loop-slot.slot ≡ false = sym c.is_seed.ensures ∙ w.if-not-is_seed.true in
          let longer = ap length w.push.ensures.items ∙ length-append c.loop-slot.waiting.items _ in
          let within = c.loop-slot-test.true in
          let read = slice_get_read c.args.keys.now (length c.args.keys.now) c.loop-slot.slot c.index-keys-slot.result refl within c.index-keys-slot.is in
          let fresh = All-push (IsFresh m c.args.keys.now c.args.covers.now) c.loop-slot.waiting.items _ was.fresh
          (record {
            key = ap (slice_get c.args.keys.now) w.waiting_key.ensures.slot ∙ read ∙ ap Some (sym w.waiting_key.ensures.key);
            within = omega (arith, w.waiting_key.ensures.slot);
            grown = w.waiting_key.ensures.grown;
          })
          in
          rw w.waiting-is (record {
            slots = listed_takes p c.loop-slot.slot _ _ _ other was.slots w.waiting_key.ensures.slot w.push.ensures.items;
            fresh = rw w.push.ensures.items fresh;
            short = rw w.push.ensures.items (All-push (IsShort g.M.Measure.SHORT) c.loop-slot.waiting.items _ was.short w.waiting_key.ensures.short);
            few = omega (arith, longer);
          })
      | else-not-is_seed w ↦
          let seed : is_seed p c.loop-slot.slot ≡ true = sym c.is_seed.ensures ∙ w.if-not-is_seed.false in
          rw w.waiting-is (record {
            slots = listed_skips p c.loop-slot.slot _ seed was.slots;
            fresh = was.fresh;
            short = was.short;
            few = omega arith;
          })
    ]
