-- The bytes of parameters determine them.
use Rattle.std.proofs.Common.{◌≡◌, ◌∙◌, sym, ap, ℕ, List, take, drop}
use Rattle.std.specs.Int.{from_be_bytes}
use Rattle.std.proofs.lemmas.Nat.{from_be_bytes-to_be_bytes_2, from_be_bytes-to_be_bytes_4}
use mir.Syntax.{w16, w32}
use Rattle.gx_glog.specs.declared.parameters.Parameters.{Parameters}
use Rattle.gx_glog.specs.Parameters.{Fit, BytesTellParameters, parameters_bytes}

-- read back from their bytes
again : List ℕ → Parameters
again bytes = record { pages = from_be_bytes w32 (take 4 bytes); most = from_be_bytes w16 (take 2 (drop 4 bytes)); class = from_be_bytes w16 (drop 6 bytes) }

comes_back : (p : Parameters) → Fit p → again (parameters_bytes p) ≡ p
unfolding again
comes_back p fit =
    ap (λ n. record (again (parameters_bytes p)) { pages = n }) (from_be_bytes-to_be_bytes_4 p.pages fit.pages)
    ∙ (ap (λ n. record { pages = p.pages; most = n; class = (again (parameters_bytes p)).class }) (from_be_bytes-to_be_bytes_2 p.most fit.most)
    ∙ ap (λ n. record { pages = p.pages; most = p.most; class = n }) (from_be_bytes-to_be_bytes_2 p.class fit.class))

pub told : BytesTellParameters
told p q fit fits same = sym (comes_back p fit) ∙ (ap again same ∙ comes_back q fits)
