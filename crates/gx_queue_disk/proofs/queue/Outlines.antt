-- How a queue's calls lie in it: where one is taken, and where one comes behind the others.
use Rattle.std.proofs.Common.{◌≡◌, ◌∙◌, sym, ap, refl, ℕ, ◌+◌, ◌-◌, ◌<◌, ◌≤◌, List, [], ◌∷◌, ◌++◌, length, take, drop, slice_index_or, arith}
use Rattle.std.proofs.lemmas.List.{take_all, drop_all, drop_more, drop-drop, take-append-le, drop-append-le, length-drop, length-append}
use Rattle.gx_queue_disk.specs.declared.queue.Outline.{Outline}
use Rattle.gx_queue_disk.specs.Queues.{size_of, call_of, sizes_of, calls_of, IsKept}

-- the calls from a place on begin with the one there
pub from_here : (calls : List Outline) (i : ℕ) (x : Outline) → i < length calls → x ≡ slice_index_or calls i x → drop i calls ≡ x ∷ drop (i + 1) calls
from_here calls i x lt is = drop_more calls i x lt ∙ ap (λ y. y ∷ drop (i + 1) calls) (sym is)

-- a call in front
module _ (calls : List Outline) (bytes : List ℕ) (taken at : ℕ) (x : Outline) (kept : IsKept calls bytes taken at) (lt : taken < length calls) (is : x ≡ slice_index_or calls taken x) where
  sized : size_of x + sizes_of (drop (taken + 1) calls) ≡ length (drop at bytes)
  unfolding sizes_of
  sized = rw (from_here calls taken x lt is) at kept.sized

  pub front_fits : size_of x ≤ length (drop at bytes)
  front_fits = omega (arith, sized)

  pub front_inside : at + size_of x ≤ length bytes
  front_inside = omega (arith, front_fits, kept.inside, length-drop at bytes)

  pub front_is : calls_of (drop taken calls) (drop at bytes) ≡ call_of x (take (size_of x) (drop at bytes)) ∷ calls_of (drop (taken + 1) calls) (drop (size_of x) (drop at bytes))
  unfolding calls_of
  front_is = rw (from_here calls taken x lt is) refl

  -- its bytes are lent with all that come behind them
  lent_all : (given : List ℕ) → given ≡ bytes → take (length given - at) (drop at given) ≡ drop at bytes
  lent_all given is = rw is (take_all (length bytes - at) (drop at bytes) (omega (arith, length-drop at bytes)))

  pub front_lent : (given : List ℕ) → given ≡ bytes → size_of x ≤ length (take (length given - at) (drop at given))
  front_lent given is = rw (lent_all given is) front_fits

  pub front_shown : (given : List ℕ) → given ≡ bytes
      → calls_of (drop taken calls) (drop at bytes) ≡ call_of x (take (size_of x) (take (length given - at) (drop at given))) ∷ calls_of (drop (taken + 1) calls) (drop (size_of x) (drop at bytes))
  front_shown given is = rw (lent_all given is) front_is

  pub front_taken : calls_of (drop (taken + 1) calls) (drop (at + size_of x) bytes) ≡ drop 1 (calls_of (drop taken calls) (drop at bytes))
  front_taken = ap (calls_of (drop (taken + 1) calls)) (sym (drop-drop (size_of x) at bytes)) ∙ sym (ap (drop 1) front_is)

  pub front_kept : IsKept calls bytes (taken + 1) (at + size_of x)
  front_kept = record {
    few = omega (arith, lt);
    inside = front_inside;
    sized = omega (arith, sized, front_inside, length-drop at bytes, length-drop (at + size_of x) bytes);
  }

-- where none is kept, none is left
pub nothing_kept : (calls : List Outline) (bytes : List ℕ) → calls ≡ [] → bytes ≡ [] → IsKept calls bytes 0 0
unfolding sizes_of
nothing_kept calls bytes none no_bytes = rw (none, no_bytes) (record { few = omega arith; inside = omega arith; sized = refl })

-- where all are taken, none is left
pub none_left : (calls : List Outline) (bytes : List ℕ) (taken : ℕ) → length calls ≤ taken → calls_of (drop taken calls) bytes ≡ []
unfolding calls_of
none_left calls bytes taken all = rw (drop_all taken calls all) refl

-- the bytes of calls, and of one behind them
sizes_of-append : (calls : List Outline) (call : Outline) → sizes_of (calls ++ call ∷ []) ≡ sizes_of calls + size_of call
unfolding sizes_of
sizes_of-append [] call = omega arith
sizes_of-append (c ∷ calls) call = omega (arith, sizes_of-append calls call)

-- calls, and one behind them
calls_of-append : (calls : List Outline) (call : Outline) (bytes new : List ℕ) → sizes_of calls ≡ length bytes → size_of call ≡ length new
    → calls_of (calls ++ call ∷ []) (bytes ++ new) ≡ calls_of calls bytes ++ call_of call new ∷ []
unfolding calls_of sizes_of
calls_of-append [] call bytes new sized size =
    let none : bytes ≡ [] = drop_all 0 bytes (omega (arith, sized)) in
    rw none (ap (λ b. call_of call b ∷ []) (take_all (size_of call) new (omega (arith, size))))
calls_of-append (c ∷ calls) call bytes new sized size =
    let le : size_of c ≤ length bytes = omega (arith, sized) in
    let rest = calls_of-append calls call (drop (size_of c) bytes) new (omega (arith, sized, length-drop (size_of c) bytes)) size in
    rw (take-append-le (size_of c) bytes new le, drop-append-le (size_of c) bytes new le, rest) refl

-- a call behind the others
module _ (calls calls' : List Outline) (bytes bytes' new : List ℕ) (taken at : ℕ) (call : Outline) (kept : IsKept calls bytes taken at) (size : size_of call ≡ length new)
    (longer : calls' ≡ calls ++ call ∷ []) (more : bytes' ≡ bytes ++ new) where
  calls_left : drop taken calls' ≡ drop taken calls ++ call ∷ []
  calls_left = ap (drop taken) longer ∙ drop-append-le taken calls (call ∷ []) kept.few

  bytes_left : drop at bytes' ≡ drop at bytes ++ new
  bytes_left = ap (drop at) more ∙ drop-append-le at bytes new kept.inside

  pub pushed_kept : IsKept calls' bytes' taken at
  pushed_kept = record {
    few = omega (arith, kept.few, ap length longer, length-append calls (call ∷ []));
    inside = omega (arith, kept.inside, ap length more, length-append bytes new);
    sized = ap sizes_of calls_left ∙ omega (arith, sizes_of-append (drop taken calls) call, kept.sized, size, ap length bytes_left, length-append (drop at bytes) new);
  }

  pub pushed_is : calls_of (drop taken calls') (drop at bytes') ≡ calls_of (drop taken calls) (drop at bytes) ++ call_of call new ∷ []
  pushed_is = rw (calls_left, bytes_left) (calls_of-append (drop taken calls) call (drop at bytes) new kept.sized size)
