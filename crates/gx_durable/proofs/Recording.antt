-- What is stored over changes with their records, and over a page's write.
use Rattle.std.proofs.Common.{◌≡◌, ◌≢◌, ◌∙◌, sym, ap, refl, inl, inr, ℕ, ◌≤◌, true, ◌&&◌, List, [], ◌∷◌, ◌++◌, Option, None, Some}
use Rattle.std.specs.Prelude.{◌==◌, if◌then◌else◌, nat_le, nat_lt}
use Rattle.std.proofs.Math.Decide.{ℕ_discrete}
use Rattle.std.proofs.Math.Path.{fun_ext}
use Rattle.std.proofs.lemmas.Bool.{eqb-true, lt-ltb, le-leb}
use Rattle.gx_disk.specs.declared.layout.TheConstants.{PAGE_SECTORS}
use Rattle.gx_disk.specs.Device.{Device, Touches}
use Rattle.gx_disk.proofs.Spans.{touched_span}
use Rattle.gx_page.specs.Contents.{Contents}
use Rattle.gx_page.specs.Edits.{blank}
use Rattle.gx_page.specs.Format.{image_of}
use Rattle.gx_pool.specs.Area.{bytes_of, first_of, IsPage}
use Rattle.gx_pool.specs.Creating.{Creates}
use Rattle.gx_pool.specs.Edits.{changed, later}
use Rattle.gx_pool.specs.Laws.{IsBacked}
use Rattle.gx_pool.specs.State.{State, Kept, kept}
use Rattle.gx_pool.specs.Writing.{contents_of}
use Rattle.gx_pool.proofs.Gated.{pages_apart}
use Rattle.gx_pool.proofs.Places.{changed_kept, changed_other}
use Rattle.gx_recovery.specs.Records.{Record}
use Rattle.gx_recovery.specs.Redo.{with_page, with_images, redo, redone}
use Rattle.gx_recovery.specs.Logged.{all_records}
use Rattle.gx_recovery.proofs.Logs.{and_all}
use Rattle.gx_recovery.proofs.Tests.{true_or_false}
use Rattle.gx_durable.specs.Spelled.{Reading, images_read}
use Rattle.gx_durable.specs.Area.{HasPages}
use Rattle.gx_durable.specs.Stored.{bytes_by, stored, StoresAll, images_of, ChangingStoresOne, CreatingStoresOne, RecordingStaysStored, WriteStaysStored, PagesStayStored}
use Rattle.gx_durable.proofs.Areas.{by_test, device_page}
use Rattle.gx_durable.proofs.Reading.{one_more, unequal}
use Rattle.gx_durable.proofs.Storing.{clean_bytes, stored_same}

-- pages with one page's content: that page, and each other
one_page : {P : Type 0} (page p : ℕ) (content : P) (area : ℕ → P) (x : P) → (p ≡ page → x ≡ content) → (p ≢ page → x ≡ area p) → x ≡ with_page page content area p
one_page {P} page p content area x this other = elim (true_or_false (page == p)) [
  | inl is ↦ this (sym (eqb-true page p is)) ∙ sym (ap (λ b. if b then content else area p) is)
  | inr not_so ↦ other (λ e. unequal page p (sym e) not_so) ∙ sym (ap (λ b. if b then content else area p) not_so)
]

-- the contents of a page in a frame decide its bytes, whatever the stamp
kept_bytes : (o n : Option Kept) (was now : List ℕ) → contents_of n ≡ contents_of o → (o ≡ None → now ≡ was) → bytes_by n now ≡ bytes_by o was
kept_bytes None None was now same rests = rests refl
kept_bytes None (Some k) was now same rests = absurd (let never : ◌≡◌ {A = Option Contents} (Some k.page) None = same in cc)
kept_bytes (Some k) None was now same rests = absurd (let never : ◌≡◌ {A = Option Contents} None (Some k.page) = same in cc)
kept_bytes (Some k) (Some j) was now same rests =
    let both : ◌≡◌ {A = Option Contents} (Some j.page) (Some k.page) = same in let one : j.page ≡ k.page = cc in ap image_of one

-- a page that isn't in a frame has the bytes that it had, whichever page was written
other_bytes : (d e : Device) (frames : State) (page p : ℕ) → IsPage d.sectors page → IsPage d.sectors p → Touches (first_of page) PAGE_SECTORS d e → (kept frames page ≡ None → e.seen ≡ d.seen)
    → kept frames p ≡ None → bytes_of e.seen p ≡ bytes_of d.seen p
other_bytes d e frames page p here there touches rests none = elim (ℕ_discrete p page) [
  | yes this ↦ ap (λ (seen : List ℕ). bytes_of seen p) (rests (sym (ap (λ q. kept frames q) this) ∙ none))
  | no other ↦ touched_span (first_of page) PAGE_SECTORS (first_of p) PAGE_SECTORS d e touches (pages_apart page p here.from there.from (λ same. other (sym same)))
]

redone_more : {E P : Type 0} (area : ℕ → P) (xs ys : List (Record E P)) → redone area (xs ++ ys) ≡ redone (redone area xs) ys
redone_more area [] ys = refl
redone_more area (x ∷ xs) ys = redone_more (redo area x) xs ys

module _ {E P : Type 0} (r : Reading E P) where
  -- a page's write leaves what is stored
  pub write_stores : (pages : ℕ) (frames frames' : State) (d e : Device) (page : ℕ) → HasPages pages d.sectors → IsPage d.sectors page → Touches (first_of page) PAGE_SECTORS d e
      → ((q : ℕ) → contents_of (kept frames' q) ≡ contents_of (kept frames q)) → (kept frames page ≡ None → e.seen ≡ d.seen)
      → (p : ℕ) → stored r pages frames' e.seen p ≡ stored r pages frames d.seen p
  unfolding stored
  write_stores pages frames frames' d e page has here touches same rests p =
      by_test (nat_lt 0 p && nat_le p pages) (r.content (bytes_by (kept frames' p) (bytes_of e.seen p))) (r.content (bytes_by (kept frames p) (bytes_of d.seen p))) r.no_page
      (λ is. ap (λ (bytes : List ℕ). r.content bytes)
      (kept_bytes (kept frames p) (kept frames' p) (bytes_of d.seen p) (bytes_of e.seen p) (same p)
      (λ none. other_bytes d e frames page p here (device_page pages d.sectors p has is) touches rests none)))

  -- a page of the device that is in a frame is stored as that has it
  stored_kept : (pages : ℕ) (frames : State) (seen : List ℕ) (p : ℕ) (k : Kept) → kept frames p ≡ Some k → 1 ≤ p → p ≤ pages → stored r pages frames seen p ≡ r.content (image_of k.page)
  unfolding stored
  stored_kept pages frames seen p k is low high =
      let there : (nat_lt 0 p && nat_le p pages) ≡ true = and_all (nat_lt 0 p) (nat_le p pages) (lt-ltb 0 p low) (le-leb p pages high) in
      ap (λ b. if b then r.content (bytes_by (kept frames p) (bytes_of seen p)) else r.no_page) there ∙ ap (λ (o : Option Kept). r.content (bytes_by o (bytes_of seen p))) is

  stored_at : (pages : ℕ) (frames : State) (seen : List ℕ) (page p : ℕ) (k : Kept) → p ≡ page → kept frames page ≡ Some k → 1 ≤ page → page ≤ pages → stored r pages frames seen p ≡ r.content (image_of k.page)
  stored_at pages frames seen page p k this is low high = ap (λ q. stored r pages frames seen q) this ∙ stored_kept pages frames seen page k is low high

  pub changing_stores : ChangingStoresOne r
  changing_stores pages seen s page batch contents k sound is low high p =
      let new = changed s page batch contents in
      let now : Kept = record { page = contents; stamp = Some (later batch k.stamp) } in
      one_page page p (r.content (image_of contents)) (stored r pages s seen) (stored r pages new seen p)
      (λ this. stored_at pages new seen page p now this (changed_kept s page batch contents k sound is) low high)
      (λ other. stored_same r pages s new seen p (ap (λ (o : Option Kept). bytes_by o (bytes_of seen p)) (changed_other s page p batch contents sound other)))

  -- a page that was kept no more after another was made is what the device has
  created_bytes : (seen : List ℕ) (old new : State) (page level batch p : ℕ) → Creates old new page level batch → IsBacked old seen → p ≢ page
      → bytes_by (kept new p) (bytes_of seen p) ≡ bytes_by (kept old p) (bytes_of seen p)
  created_bytes seen old new page level batch p creates backed other = elim (creates.others p other) [
    | inl same ↦ ap (λ (o : Option Kept). bytes_by o (bytes_of seen p)) same
    | inr left ↦ ap (λ (o : Option Kept). bytes_by o (bytes_of seen p)) left.is ∙ sym (clean_bytes old seen p (kept old p) refl left.was.clean backed)
  ]

  pub creating_stores : CreatingStoresOne r
  creating_stores pages seen old new page level batch creates backed low high p =
      let now : Kept = record { page = blank level page; stamp = Some batch } in
      one_page page p (r.content (image_of (blank level page))) (stored r pages old seen) (stored r pages new seen p)
      (λ this. stored_at pages new seen page p now this creates.made low high)
      (λ other. stored_same r pages old new seen p (created_bytes seen old new page level batch p creates backed other))

  pub recording_stores : RecordingStaysStored r
  recording_stores pages seen old new s x made is p =
      made p ∙ ap (λ (area : ℕ → P). redo area x p) (fun_ext is) ∙ sym (ap (λ (area : ℕ → P). area p) (redone_more s.area (all_records s) (x ∷ [])))
      ∙ sym (ap (λ (log : List (Record E P)). redone s.area log p) (one_more s x))

  pub write_stays : WriteStaysStored r
  write_stays pages seen old new s tx row key before after leaf contents one is = recording_stores pages seen old new s _ one is

  all_stored : (pages : ℕ) (seen : List ℕ) (old new : State) (changes : List (ℕ × Contents)) → StoresAll r pages seen old changes new
      → (p : ℕ) → stored r pages new seen p ≡ with_images (images_read r (images_of changes)) (stored r pages old seen) p
  all_stored pages seen old new [] same p = same p
  all_stored pages seen old new (change ∷ changes) (between, one, rest) p =
      all_stored pages seen between new changes rest p ∙ ap (λ (area : ℕ → P). with_images (images_read r (images_of changes)) area p) (fun_ext one)

  pub pages_stay : PagesStayStored r
  pages_stay pages seen old new s changes counter used all is = recording_stores pages seen old new s _ (all_stored pages seen old new changes all) is
