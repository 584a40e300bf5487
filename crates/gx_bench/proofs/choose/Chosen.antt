-- One choice after another.
use Rattle.std.proofs.Common.{◌≡◌, ℕ, ◌+◌, ◌<◌, ◌≤◌, List, length, get_or, set, sym, subst, inl, inr, arith}
use Rattle.std.proofs.lemmas.Bool.{cases_eq}
use Rattle.std.proofs.lemmas.List.{get_or-set_same, get_or-set_other, get_or_default}
use Rattle.gx_geom.specs.Rectangles.{Rectangle}
use Rattle.gx_node.specs.Trees.{Child}
use Rattle.gx_bench.specs.Choices.{IsChosen, AreChosen}
use Rattle.gx_bench.specs.Sent.{key_of}
use Rattle.gx_bench.specs.declared.sent.SentBox.{SentBox}

pub none_chosen : (children : List (Child Rectangle)) (keys : List SentBox) (slots : List ℕ) → AreChosen children keys slots 0
none_chosen children keys slots = record { each = λ k d below. absurd (omega arith) }

pub fewer_chosen : (children : List (Child Rectangle)) (keys : List SentBox) (slots : List ℕ) (count fewer : ℕ) → fewer ≤ count → AreChosen children keys slots count
    → AreChosen children keys slots fewer
fewer_chosen children keys slots count fewer less chosen = record { each = λ k d below. chosen.each k d (omega arith) }

pub one_more_chosen : (children : List (Child Rectangle)) (keys : List SentBox) (slots : List ℕ) (i : ℕ) (sent : SentBox) (slot : ℕ) → i < length keys → length slots ≡ length keys
    → AreChosen children keys slots i → IsChosen children (key_of (get_or keys i sent)) slot → AreChosen children keys (set slots i slot) (i + 1)
one_more_chosen children keys slots i sent slot here as_many chosen this =
    record {
      each = λ k d below. elim (cases_eq k i) [
        | inl e ↦ subst (λ n. IsChosen children (key_of (get_or keys n d)) (get_or (set slots i slot) n 0)) (sym e)
            (subst (λ s. IsChosen children (key_of (get_or keys i d)) s) (sym (get_or-set_same slots i slot 0 (omega (arith, as_many))))
            (subst (λ key. IsChosen children (key_of key) slot) (get_or_default keys i sent d here) this))
        | inr e ↦ subst (λ s. IsChosen children (key_of (get_or keys k d)) s) (sym (get_or-set_other slots i k slot 0 e)) (chosen.each k d (omega arith))
      ];
    }
