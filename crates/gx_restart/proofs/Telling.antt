-- The text of a tree, page by page.
use Rattle.std.proofs.Common.{◌≡◌, inl, inr, ℕ, zero, suc, ◌+◌, ◌<◌, ◌≤◌, Bool, List, [], ◌++◌, length-append, append_assoc, add-one, refl, ap, sym, ◌∙◌, subst, arith, Option}
use Rattle.std.specs.Prelude.{Result, Ok, Err}
use Rattle.std.specs.Io.KnownBytes.{Appends}
use Rattle.std.proofs.KnownBytes.{Appends-nil, Appends-trans}
use Rattle.std.proofs.lemmas.Bool.{cases_eq}
use Rattle.std.proofs.lemmas.List.{append-nil}
use Rattle.gx_class.specs.declared.class.KeyClass.{Ghosts}
use Rattle.gx_disk.specs.Device.{Device}
use Rattle.gx_machine.specs.Keys.{Members}
use Rattle.gx_page.specs.Contents.{Contents}
use Rattle.gx_node.specs.Reading.{format_of, is_node}
use Rattle.gx_node.specs.Trees.{Node, Tree}
use Rattle.gx_node.specs.Store.{node_of}
use Rattle.gx_recovery.specs.Known.{Limits}
use Rattle.gx_index_laws.specs.Classes.{known_of}
use Rattle.gx_durable.specs.Classes.{class_of, reading_of}
use Rattle.gx_storage.specs.Keeps.{ShowsTheLogs}
use Rattle.gx_script.specs.Corners.{Grammar}
use Rattle.gx_script.specs.Writes.{IsPut, IsCut}
use Rattle.gx_script.proofs.WriteLemmas.{cut_more, put_cut, put_then}
use Rattle.gx_events.specs.declared.outcome.Need.{Need}
use Rattle.gx_events.specs.declared.outcome.Outcome.{Outcome}
use Rattle.gx_engine.specs.Lending.{StandsAs}
use Rattle.gx_engine.specs.States.{Parts}
use Rattle.gx_restart.specs.declared.text.stop.Stop.{Stop}
use Rattle.gx_restart.specs.declared.text.stop.Stop.TheVariants as stop
use Rattle.gx_restart.specs.Bringing.{AreBrought, IsBrought, IsRead, IsTold}
use Rattle.gx_restart.specs.Reading.{OfItsTree}
use Rattle.gx_restart.specs.Text.{dump_text, head_line, node_text, pages_text}
use Rattle.gx_restart.proofs.Bringing.{all_read, brought_read, brings, helps}

module _ {B : Type 0} (grammar : Grammar B) (node : ℕ → Node B) where
  -- one page more
  pages_more : (n : ℕ) → pages_text grammar node (n + 1) ≡ pages_text grammar node n ++ node_text grammar (n + 1) (node (n + 1))
  unfolding pages_text
  pages_more n = subst (λ (k : ℕ). pages_text grammar node k ≡ pages_text grammar node n ++ node_text grammar k (node k)) (sym (add-one n)) refl

  -- the pages up to one, and the others
  pages_split : (n used : ℕ) → n < used → (more : List ℕ) × (pages_text grammar node used ≡ pages_text grammar node (n + 1) ++ more)
  unfolding pages_text
  pages_split n zero less = absurd (omega (arith, less))
  pages_split n (suc used) less = elim (cases_eq n used) [
    | inl same ↦ ([], ap (pages_text grammar node) (ap suc (sym same) ∙ sym (add-one n)) ∙ sym (append-nil (pages_text grammar node (n + 1))))
    | inr other ↦
        (let rest = pages_split n used (omega (arith, less, other)) in
        (rest.0 ++ node_text grammar (suc used) (node (suc used)), ap (λ text. text ++ node_text grammar (suc used) (node (suc used))) rest.1 ∙ append_assoc (pages_text grammar node (n + 1)) rest.0 (node_text grammar (suc used) (node (suc used)))))
  ]

-- nothing was written of what waits and of a page
pub nothing_told : {B : Type 0} (grammar : Grammar B) (h : Option (List ℕ)) (waiting : List ℕ) (page : ℕ) (node : Node B) → IsCut h h (waiting ++ node_text grammar page node)
unfolding node_text
nothing_told grammar h waiting page node = record {
  sent = [];
  lost = waiting ++ node_text grammar page node;
  wrote = Appends-nil h;
  all = refl;
  some = omega (arith, length-append waiting (node_text grammar page node));
}

-- nothing was written at all
pub none_told : {B : Type 0} (grammar : Grammar B) (h : Option (List ℕ)) (number : ℕ) (t : Tree B) → IsCut h h (dump_text grammar number t)
unfolding dump_text
none_told grammar h number t = record { sent = []; lost = head_line number t.used t.counter ++ pages_text grammar t.node t.used; wrote = Appends-nil h; all = refl; some = omega arith }

module _ {B : Type 0} (grammar : Grammar B) (number : ℕ) (t : Tree B) (h h1 : Option (List ℕ)) where
  abbrev head : List ℕ
  head = head_line number t.used t.counter

  -- the text up to a page
  abbrev upto : ℕ → List ℕ
  upto n = head ++ pages_text grammar t.node n

  -- the first line, by the numbers that were given
  module _ (n used counter : ℕ) (same_number : n ≡ number) (same_used : used ≡ t.used) (same_counter : counter ≡ t.counter) where
    same_head : head_line n used counter ≡ head
    same_head = ap (λ k. head_line k used counter) same_number ∙ ap (λ k. head_line number k counter) same_used ∙ ap (λ k. head_line number t.used k) same_counter

    pub head_told : (waiting lines : List ℕ) → waiting ≡ [] → IsPut h h1 waiting (head_line n used counter) lines → IsPut h h1 [] (upto 0) lines
    unfolding pages_text
    head_told waiting lines none put =
        subst (λ (text : List ℕ). IsPut h h1 [] text lines) (same_head ∙ sym (append-nil head)) (subst (λ (x : List ℕ). IsPut h h1 x (head_line n used counter) lines) none put)

    pub head_cut : (waiting : List ℕ) → waiting ≡ [] → IsCut h h1 (waiting ++ head_line n used counter) → IsCut h h1 (dump_text grammar number t)
    unfolding dump_text
    head_cut waiting none cut =
        cut_more h h1 head (pages_text grammar t.node t.used)
        (subst (λ (text : List ℕ). IsCut h h1 text) same_head (subst (λ (x : List ℕ). IsCut h h1 (x ++ head_line n used counter)) none cut))

  module _ (h2 : Option (List ℕ)) where
    pub page_told : (n : ℕ) (lines more : List ℕ) → IsPut h h1 [] (upto n) lines → IsPut h1 h2 lines (node_text grammar (n + 1) (t.node (n + 1))) more → IsPut h h2 [] (upto (n + 1)) more
    page_told n lines more first next =
        put_then h h1 h2 [] (upto n) lines (node_text grammar (n + 1) (t.node (n + 1))) (upto (n + 1)) more first next
        (ap (λ text. head ++ text) (pages_more grammar t.node n) ∙ sym (append_assoc head (pages_text grammar t.node n) (node_text grammar (n + 1) (t.node (n + 1)))))

    pub page_cut : (n : ℕ) (lines : List ℕ) → n < t.used → IsPut h h1 [] (upto n) lines → IsCut h1 h2 (lines ++ node_text grammar (n + 1) (t.node (n + 1))) → IsCut h h2 (dump_text grammar number t)
    unfolding dump_text
    page_cut n lines less first cut =
        let here = node_text grammar (n + 1) (t.node (n + 1)) in
        let rest = pages_split grammar t.node n t.used less in
        let text : head ++ pages_text grammar t.node t.used ≡ upto n ++ (here ++ rest.0) =
        ap (λ x. head ++ x) (rest.1 ∙ ap (λ x. x ++ rest.0) (pages_more grammar t.node n) ∙ append_assoc (pages_text grammar t.node n) here rest.0)
        ∙ sym (append_assoc head (pages_text grammar t.node n) (here ++ rest.0)) in
        put_cut h h1 h2 [] (upto n) lines (here ++ rest.0) (head ++ pages_text grammar t.node t.used) first
        (subst (λ (x : List ℕ). IsCut h1 h2 x) (append_assoc lines here rest.0) (cut_more h1 h2 (lines ++ here) rest.0 cut)) text

    pub all_told : (n : ℕ) (lines : List ℕ) → n ≡ t.used → IsPut h h1 [] (upto n) lines → Appends h1 h2 lines → Appends h h2 (dump_text grammar number t)
    unfolding dump_text
    all_told n lines all so_far last =
        let put : IsPut h h1 [] (upto t.used) lines = subst (λ (k : ℕ). IsPut h h1 [] (upto k) lines) all so_far in
        subst (λ (x : List ℕ). Appends h h2 x) (sym put.all) (Appends-trans h h1 h2 put.sent lines put.wrote last)

    pub last_cut : (n : ℕ) (lines : List ℕ) → n ≡ t.used → IsPut h h1 [] (upto n) lines → IsCut h1 h2 lines → IsCut h h2 (dump_text grammar number t)
    unfolding dump_text
    last_cut n lines all so_far cut =
        let put : IsPut h h1 [] (upto t.used) lines = subst (λ (k : ℕ). IsPut h h1 [] (upto k) lines) all so_far in
        put_cut h h1 h2 [] (upto t.used) lines [] (upto t.used) put (subst (λ (x : List ℕ). IsCut h1 h2 x) (sym (append-nil lines)) cut) (sym (append-nil (upto t.used)))

-- All pages up to one were brought, and the next one was to be written.
module _ {B D : Type 0} (brings : ℕ → Parts B D → Result (Unit {0}) (Outcome B) → Parts B D → Type 0) (helps : Need → Parts B D → Outcome B → Parts B D → Type 0)
    (n : ℕ) (old middle new : Parts B D) (all : AreBrought brings helps old n middle) where
  pub one_more : IsTold brings helps (n + 1) middle (Ok tt) new → AreBrought brings helps old (n + 1) new
  one_more told =
      subst (λ (k : ℕ). AreBrought brings helps old k new) (sym (add-one n)) (middle, all, subst (λ (k : ℕ). IsBrought (brings k) helps middle (Ok tt) new) (add-one n) told)

  untold : (e : Stop) → n < old.volume.shelf.used → IsTold brings helps (suc n) middle (Err e) new → IsRead brings helps old (Err e) new
  untold stop.Write less next = (suc n, less, (middle, all, next))
  untold (stop.Refused why) less next = record { count = n; more = less; middle = middle; brought = all; next = next }
  untold stop.GivenUp less next = record { count = n; more = less; middle = middle; brought = all; next = next }

  pub stopped : (e : Stop) → n < old.volume.shelf.used → IsTold brings helps (n + 1) middle (Err e) new → IsRead brings helps old (Err e) new
  stopped e less told = untold e less (subst (λ (k : ℕ). IsTold brings helps k middle (Err e) new) (add-one n) told)

module _ {C B D : Type 0} (shape : Members B) (proper : B → Bool) (said : List ℕ → B) (class : Ghosts C B) (state : D → Device) (l : Limits) where
  abbrev OfTree : Parts B D → (Tree B → Type 0) → Type 0
  OfTree = OfItsTree (class_of shape proper l) (reading_of said (format_of class)) (format_of class) (is_node (format_of class)) state

  abbrev Shows : Parts B D → Type 0
  Shows e = ShowsTheLogs (known_of (class_of shape proper l)) (reading_of said (format_of class)) (format_of class) (is_node (format_of class)) (state e.volume.shelf.disk) e.volume

  -- a page that was brought is as the tree has it
  pub node_told : (page : ℕ) (old middle : Parts B D) (contents : Contents) → 1 ≤ page → page ≤ old.volume.shelf.used
      → IsBrought (brings shape proper said class state page) (helps shape proper said class state) old (Ok tt) middle → Shows middle
      → StandsAs (format_of class) (is_node (format_of class)) (state middle.volume.shelf.disk) page middle contents
      → OfTree old (λ t. node_of (format_of class) contents ≡ t.node page)
  node_told page old middle contents from to brought shows stands bodies i h =
      let read = brought_read shape proper said class state l page old middle brought bodies i h in
      let agree = shows read.ran.bodies read.ran.index.log read.ran.holds.keeps in
      let used = ap (λ (t : Tree B). t.used) read.same in
      stands.node ∙ agree.nodes page (omega (arith, from), omega (arith, used, h.keeps.used, to)) ∙ ap (λ (t : Tree B). t.node page) read.same

  -- the tree after pages were brought
  pub later : (n : ℕ) (old middle : Parts B D) (P : Tree B → Type 0) → AreBrought (brings shape proper said class state) (helps shape proper said class state) old n middle
      → OfTree middle P → OfTree old P
  later n old middle P all holds bodies i h =
      let read = all_read shape proper said class state l n old middle all bodies i h in
      subst P read.same (holds read.ran.bodies read.ran.index read.ran.holds)
