-- What a loop has written that writes an element of each that it reads.
use Rattle.std.proofs.Common.{◌≡◌, ℕ, ◌+◌, ◌<◌, List, [], ◌∷◌, ◌++◌, map, length, get_or, take, set, ap, sym, ◌∙◌}
use Rattle.std.proofs.lemmas.List.{map-append, take_more, take_more_set}

pub written_more : {E S : Type 0} (f : E → S) (out : List S) (entries : List E) (k : ℕ) (e : E) (s : S) → take k out ≡ map f (take k entries) → k < length out → k < length entries → e ≡ get_or entries k e → s ≡ f e
    → take (k + 1) (set out k s) ≡ map f (take (k + 1) entries)
written_more f out entries k e s was room here is sent =
    take_more_set out k s room ∙ (ap (λ written. written ++ s ∷ []) was ∙ (ap (λ last. map f (take k entries) ++ last ∷ []) (sent ∙ ap f is)
    ∙ sym (ap (map f) (take_more entries k e here) ∙ map-append f (take k entries) (get_or entries k e ∷ []))))
