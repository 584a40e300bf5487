-- A log that begins.
use Rattle.std.proofs.Common.{◌≡◌, ◌∙◌, sym, ap, refl, subst, ℕ, ◌+◌, ◌*◌, ◌≤◌, Bool, true, List, [], ◌∷◌, length, length-append, arith}
use Rattle.std.specs.Prelude.{nat_le}
use Rattle.std.specs.List.{AllByRecursion}
use Rattle.std.proofs.lemmas.Bool.{le-leb}
use Rattle.std.proofs.lemmas.List.{append-nil}
use Rattle.gx_record.specs.Rec.{Rec}
use Rattle.gx_record.specs.Rec as rec
use Rattle.gx_record.specs.Format.{spelling, spellings, IsRecord}
use Rattle.gx_record.proofs.Writes.{spelling_size}
use Rattle.gx_glog.specs.declared.extent.Extent.TheVariants.{A}
use Rattle.gx_glog.specs.First.{first_record, HasFirstLog, IsFirstSettled}
use Rattle.gx_glog.specs.Layout.{batches_of}
use Rattle.gx_glog.proofs.FirstLog.{first_spelled, first_on, first_log}
use Rattle.gx_glog.proofs.Images.{selected_shows}
use Rattle.gx_recovery.specs.Known.{Known}
use Rattle.gx_recovery.proofs.Logs.{and_all}
use Rattle.gx_recovery.specs.Records.{Counters, Note, Touch}
use Rattle.gx_recovery.specs.Analysis.{analysis}
use Rattle.gx_recovery.specs.Damage.{is_head}
use Rattle.gx_recovery.specs.Renewal.{notes_of}
use Rattle.gx_durable.specs.Area.{area_of}
use Rattle.gx_durable.specs.Spelled.{Reading, record_read, records_read, AreRecords}
use Rattle.gx_durable.specs.Bodies.{AreBodies}
use Rattle.gx_durable.specs.Beginning.{first_glog, first_records, FirstIsUp, HeadsFit}
use Rattle.gx_durable.proofs.Fitting.{found_fit}
use Rattle.gx_durable.proofs.Spellings.{none_are}
use Rattle.gx_durable.proofs.Turning.{head_body}

-- the batch of a new device is the first record
first_batches : (seen : List ℕ) (pending : ℕ → Bool) → HasFirstLog seen → IsFirstSettled pending → batches_of seen A 1 ≡ first_record
first_batches seen pending has settled =
    let on = first_on seen pending has settled in
    sym (selected_shows first_glog seen pending seen on (record { size = refl; settled = λ s is. refl }) on.turn.reads) ∙ first_log seen has

module _ {E P : Type 0} (k : Known E P) (r : Reading E P) where
  first_head : 2 ≤ k.pages → is_head k (first_records E P) ≡ true
  first_head two = let has : nat_le 2 k.pages ≡ true = le-leb 2 k.pages two in rw has refl

  first_are : AreRecords r first_record (first_records E P)
  first_are = record { spelled = rec.Counters 0 0 2 1 ∷ []; in_range = (record { in_range = (omega arith, omega arith, omega arith, omega arith); has_key = tt }, tt); bytes_are = append-nil (spelling (rec.Counters 0 0 2 1)) ∙ first_spelled; read = refl }

  pub first_up : FirstIsUp k r
  first_up sectors seen pending says has settled two pages all sound fit =
      let B : List (List ℕ) → Type 0 = λ b. AreBodies r b (first_records E P ∷ []) in
      let head : is_head k (first_records E P) ≡ true = first_head two in
      record {
        on = first_on seen pending has settled;
        carries = record {
          told = record {
            gated_bodies = subst B (sym (head_body A seen first_record (first_batches seen pending has settled))) (first_are, tt);
            gated = refl;
            flight = none_are r;
            filling = none_are r;
          };
          undamaged = and_all (is_head k (first_records E P)) true head refl;
          healthy = record {
            gated = record { head = first_records E P; later = []; parts = refl; begins = head; goes_on = refl };
            good = record { sound = sound; placed = tt };
            coming = tt;
          };
          fit = found_fit k r (area_of r k.pages seen) (first_records E P) fit;
          has_pages = pages;
          head = says;
          area = λ p. refl;
          settled = λ p n is unnamed within. all p n is refl within;
          turn = λ turns. absurd (omega arith);
        };
      }

  -- each note of a head has 63 bytes at most
  one_note : (x : Rec) (t : Touch E) → r.key ≤ 41 → IsRecord r.key x → record_read r x ≡ Note t.transaction t.entry t.before t.leaf → length (spelling x) ≤ 63
  one_note (rec.Pages counter used pages) t small is same = absurd cc
  one_note (rec.Write tx row key before after leaf image) t small is same = absurd cc
  one_note (rec.Commit tx n) t small is same = absurd cc
  one_note (rec.End tx) t small is same = absurd cc
  one_note (rec.Counters n counter used next) t small is same = absurd cc
  one_note (rec.Note tx row key before leaf) t small is same = let size = spelling_size (rec.Note tx row key before leaf) is.in_range in omega (arith, size, is.has_key, small)
  one_note (rec.Bit tx row key before after leaf) t small is same = absurd cc
  one_note (rec.Add tx row key leaf) t small is same = absurd cc
  one_note (rec.Widen page slot key) t small is same = absurd cc
  one_note (rec.Sweep page slots) t small is same = absurd cc

  notes_fit : (xs : List Rec) (ts : List (Touch E)) → r.key ≤ 41 → AllByRecursion (IsRecord r.key) xs → records_read r xs ≡ notes_of ts → length (spellings xs) ≤ 63 * length ts
  notes_fit [] [] small all same = omega arith
  notes_fit [] (t ∷ ts) small all same = absurd cc
  notes_fit (x ∷ xs) [] small all same = absurd cc
  notes_fit (x ∷ xs) (t ∷ ts) small all same =
      let first : record_read r x ≡ Note t.transaction t.entry t.before t.leaf = cc in
      let others : records_read r xs ≡ notes_of ts = cc in
      let one : length (spelling x) ≤ 63 = one_note x t small all.0 first in
      let rest : length (spellings xs) ≤ 63 * length ts = notes_fit xs ts small all.1 others in
      omega (arith, length-append (spelling x) (spellings xs), one, rest)

  one_counters : (x : Rec) (n counter used next : ℕ) → IsRecord r.key x → record_read r x ≡ Counters n counter used next → length (spelling x) ≡ 29
  one_counters (rec.Pages counter used pages) n c u m is same = absurd cc
  one_counters (rec.Write tx row key before after leaf image) n c u m is same = absurd cc
  one_counters (rec.Commit tx i) n c u m is same = absurd cc
  one_counters (rec.End tx) n c u m is same = absurd cc
  one_counters (rec.Counters i counter used next) n c u m is same = spelling_size (rec.Counters i counter used next) is.in_range
  one_counters (rec.Note tx row key before leaf) n c u m is same = absurd cc
  one_counters (rec.Bit tx row key before after leaf) n c u m is same = absurd cc
  one_counters (rec.Add tx row key leaf) n c u m is same = absurd cc
  one_counters (rec.Widen page slot key) n c u m is same = absurd cc
  one_counters (rec.Sweep page slots) n c u m is same = absurd cc

  head_size : (xs : List Rec) (n counter used next : ℕ) (ts : List (Touch E)) → r.key ≤ 41 → AllByRecursion (IsRecord r.key) xs → records_read r xs ≡ Counters n counter used next ∷ notes_of ts
      → length (spellings xs) ≤ 29 + 63 * length ts
  head_size [] n counter used next ts small all same = absurd cc
  head_size (x ∷ xs) n counter used next ts small all same =
      let first : record_read r x ≡ Counters n counter used next = cc in
      let others : records_read r xs ≡ notes_of ts = cc in
      let one : length (spelling x) ≡ 29 = one_counters x n counter used next all.0 first in
      let rest : length (spellings xs) ≤ 63 * length ts = notes_fit xs ts small all.1 others in
      omega (arith, length-append (spelling x) (spellings xs), one, rest)

  pub heads_fit : HeadsFit k r
  heads_fit bytes next log small few are =
      let a = analysis k log in
      let size = head_size are.spelled a.number a.counter a.used next a.touched small are.in_range are.read in
      omega (arith, size, few, ap length are.bytes_are)
