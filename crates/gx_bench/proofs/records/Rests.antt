-- Reading one whole record after another.
use Rattle.std.proofs.Common.{◌≡◌, ℕ, ◌-◌, ◌<◌, ◌≤◌, List, [], ◌∷◌, ◌++◌, length, drop, refl, sym, ap, ◌∙◌, subst, append_assoc, arith}
use Rattle.std.specs.List.{AllByRecursion}
use Rattle.std.proofs.lemmas.List.{append-nil, drop_at, length-append, length-drop}
use Rattle.gx_record.specs.Rec.{Rec}
use Rattle.gx_record.specs.Format.{spelling, spellings, IsRecord, BeginsWith}
use Rattle.gx_record.proofs.Whole.{spelling_sizes, spellings_join}
use Rattle.gx_bench.specs.Whole.{ReadsWhole}

-- whole records, and what is left of the bytes
pub record ReadTo (key : ℕ) (bytes rest : List ℕ) : Type 0 where
  pub records : List Rec
  pub are_records : AllByRecursion (IsRecord key) records
  pub front : bytes ≡ spellings records ++ rest

pub nothing_read : (key : ℕ) (bytes : List ℕ) → ReadTo key bytes bytes
nothing_read key bytes = record { records = []; are_records = tt; front = refl }

all-push : (key : ℕ) (rs : List Rec) (r : Rec) → AllByRecursion (IsRecord key) rs → IsRecord key r → AllByRecursion (IsRecord key) (rs ++ r ∷ [])
all-push key [] r are is = (is, tt)
all-push key (s ∷ rs) r are is = (are.0, all-push key rs r are.1 is)

pub one_more : (key : ℕ) (bytes rest : List ℕ) (r : Rec) (n : ℕ) → ReadTo key bytes rest → BeginsWith key rest r n → ReadTo key bytes (drop n rest)
one_more key bytes rest r n so_far b =
    let joined : spellings (so_far.records ++ r ∷ []) ≡ spellings so_far.records ++ spelling r =
    spellings_join so_far.records (r ∷ []) ∙ ap (λ (l : List ℕ). spellings so_far.records ++ l) (append-nil (spelling r))
    in
    record {
      records = so_far.records ++ r ∷ [];
      are_records = all-push key so_far.records r so_far.are_records b.is_record;
      front = so_far.front ∙ ap (λ (l : List ℕ). spellings so_far.records ++ l) b.front ∙ sym (append_assoc (spellings so_far.records) (spelling r) (drop n rest))
          ∙ ap (λ (l : List ℕ). l ++ drop n rest) (sym joined);
    }

pub less_left : (key : ℕ) (rest : List ℕ) (r : Rec) (n : ℕ) → BeginsWith key rest r n → length (drop n rest) < length rest
less_left key rest r n b = omega (arith, (spelling_sizes key r b.is_record).0, b.size, b.within, length-drop n rest)

pub all_read : (key : ℕ) (bytes rest : List ℕ) → ReadTo key bytes rest → ((r : Rec) (m : ℕ) → BeginsWith key rest r m → ⊥) → ReadsWhole key bytes (length bytes - length rest)
all_read key bytes rest so_far none =
    let size : length (spellings so_far.records) ≡ length bytes - length rest = omega (arith, ap length so_far.front, length-append (spellings so_far.records) rest) in
    let behind : drop (length bytes - length rest) bytes ≡ rest =
    ap (λ (l : List ℕ). drop (length bytes - length rest) l) so_far.front ∙ drop_at (spellings so_far.records) rest _ size
    in
    record {
      records = so_far.records;
      are_records = so_far.are_records;
      front = so_far.front ∙ ap (λ (l : List ℕ). spellings so_far.records ++ l) (sym behind);
      size = sym size;
      none_follows = subst (λ (l : List ℕ). (r : Rec) (m : ℕ) → BeginsWith key l r m → ⊥) (sym behind) none;
    }

pub left_within : (key : ℕ) (bytes rest : List ℕ) → ReadTo key bytes rest → length rest ≤ length bytes
left_within key bytes rest so_far = omega (arith, ap length so_far.front, length-append (spellings so_far.records) rest)
