use Rattle.std.proofs.Common.{◌≡◌, ◌<◌, ◌^◌, subst, length, map, slice_index, refl, ap, sym, ◌∙◌, arith}
use Rattle.std.proofs.lemmas.List.{get_or-map, length-map}
use Rattle.gx_split.specs.declared.choice.Spread.{Spread}
use Rattle.gx_split.specs.Waiting.{gap_of}
use Rattle.gx_split.proofs.Steps.{greatest_upto-none, first_greatest-is, either, widest_goes_on}
use Rattle.gx_split.proofs.choice.farthest.Goals as goal

pub loop-place-init : goal.loop-place-init
loop-place-init g c = record {
  is = record {
    place = sym (greatest_upto-none _);
    apart = sym (get_or-map gap_of c.args.waiting.now 0 c.index-waiting-0.result 0 c.requires.some);
    within = simp length-map c.requires.some;
  };
  short = (c.requires.short 0 c.index-waiting-0.result c.requires.some).apart;
}

pub wider-widest-requires : goal.wider-widest-requires
wider-widest-requires g c = record {
  first = c.loop-place.invariant.short;
  other = λ is. rw c.index-waiting-place.is ((c.requires.short c.loop-place.place c.index-waiting-place.result c.loop-place-test.true).apart is);
}

pub loop-place-preserved : goal.loop-place-preserved
loop-place-preserved g c =
    let waiting = c.args.waiting.now in
    let at = c.loop-place.place in
    let read : c.index-waiting-place.result.apart ≡ slice_index (map gap_of waiting) at =
    ap gap_of c.index-waiting-place.is ∙ sym (get_or-map gap_of waiting at _ 0 c.loop-place-test.true)
    in
    record {
      is = widest_goes_on (map gap_of waiting) at c.loop-place.widest _ c.wider-widest.result c.wider-widest.ensures c.loop-place.invariant.is refl read
          (simp length-map c.loop-place-test.true);
      short = λ is.
          let other : c.index-waiting-place.result.apart < 2 ^ 64 =
          rw c.index-waiting-place.is ((c.requires.short at c.index-waiting-place.result c.loop-place-test.true).apart is)
          in
          subst (λ (s : Spread). s.apart < 2 ^ 64) (sym c.wider-widest.ensures) (either (λ (s : Spread). s.apart < 2 ^ 64) _ _ _ other (c.loop-place.invariant.short is));
    }

pub returns : goal.returns
returns g c =
    let e : c.loop-place.place ≡ length (map gap_of c.args.waiting.now) = simp length-map (omega arith) in
    record { place = rw (first_greatest-is, ← e) c.loop-place.invariant.is.place; within = simp length-map at c.loop-place.invariant.is.within }
