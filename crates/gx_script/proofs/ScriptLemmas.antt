-- Runs of scripts, line by line.
use Rattle.std.proofs.Common.{◌≡◌, ℕ, suc, ◌+◌, ◌<◌, ◌≤◌, List, [], ◌∷◌, ◌++◌, Bool, true, false, eqb, length, refl, ap, sym, ◌∙◌, subst, arith, inl, inr, append_assoc, length-append, Option}
use Rattle.std.specs.Prelude.{◌⊎◌, ◌||◌}
use Rattle.std.specs.List.{list_any}
use Rattle.std.specs.Io.KnownBytes.{Appends, Consumes, Keeps, IsAtEnd}
use Rattle.std.proofs.KnownBytes.{Appends-nil, Appends-trans, Consumes-nil, Consumes-kept, Consumes-trans}
use Rattle.std.proofs.lemmas.List.{append-nil, nil_from_length}
use Rattle.std.proofs.lemmas.List.Folds.{list_any-append}
use Rattle.gx_machine.specs.declared.call.Call.{Call}
use Rattle.gx_machine.specs.declared.reply.Reply.{Reply}
use Rattle.gx_script.specs.declared.line.Line.{Line}
use Rattle.gx_script.specs.Corners.{Grammar}
use Rattle.gx_script.specs.Requests.{line_of}
use Rattle.gx_script.specs.Scripts.{asked, is_asking, AsksFirst, FirstLines, IsUnended, IsTold, IsScript, IsWritten, IsDone, IsStoppedByRead, IsStoppedByWrite, AreDone}
use Rattle.gx_script.specs.Writes.{IsPut, IsCut}
use Rattle.gx_script.specs.Steps.{kept, IsToldWhole, IsToldPart, IsFed, IsFedPart, IsEnded, IsEndedPart}
use Rattle.gx_script.proofs.LineLemmas.{asked-line, kept-line, asked-kept, asked-last, unended-append}

quiet_after : {B : Type 0} (after : List (Line B)) (l : Line B) → AsksFirst after → is_asking l ≡ false → AsksFirst (after ++ (l ∷ []))
quiet_after [] l h e = refl
quiet_after (a ∷ after) l h e =
    list_any-append is_asking after (l ∷ []) ∙ ap (λ (t : Bool). t || list_any is_asking (l ∷ [])) h ∙ ap (λ (t : Bool). t || false) e

module _ {B I : Type 0} (k : Grammar B) (answered : I → ℕ → Call B → Reply B → I → Type 0) where
  -- lines, and then more lines
  pub script_append : (n : ℕ) (a b : List (Line B)) (old mid new : I) (s t : List ℕ)
      → IsScript k answered n a old s mid → IsScript k answered (n + length a) b mid t new → IsScript k answered n (a ++ b) old (s ++ t) new
  script_append n [] b old mid new s t h later =
      let none : n + 0 ≡ n = omega arith in
      let from_n : IsScript k answered n b mid t new = subst (λ m. IsScript k answered m b mid t new) none later in
      let from_old : IsScript k answered n b old t new = subst (λ i. IsScript k answered n b i t new) h.1 from_n in
      subst (λ x. IsScript k answered n b old x new) (ap (λ x. x ++ t) (sym h.0)) from_old
  script_append n (l ∷ a) b old mid new s t h later =
      let next : n + suc (length a) ≡ n + 1 + length a = omega arith in (
        h.0,
        h.1 ++ t,
        h.2,
        h.3,
        script_append (n + 1) a b h.2 mid new h.1 t h.4 (subst (λ m. IsScript k answered m b mid t new) next later),
        ap (λ x. x ++ t) h.5 ∙ append_assoc h.0 h.1 t,
      )

  script_one : (n : ℕ) (l : Line B) (old new : I) (t : List ℕ) → IsTold k answered n l old t new → IsScript k answered n (l ∷ []) old t new
  script_one n l old new t h = (t, [], new, h, (refl, refl), sym (append-nil t))

  pub written_none : (n : ℕ) (old : I) → IsWritten k answered n [] old [] [] old
  written_none n old = record {
    before = [];
    after = [];
    middle = old;
    settled = [];
    late = [];
    parts = refl;
    ran = (refl, refl);
    runs = (refl, refl);
    asks_first = tt;
    wrote = refl;
  }

  -- a front of what waits is written
  pub written_sent : (n : ℕ) (done : List (Line B)) (old new : I) (w a b : List ℕ)
      → IsWritten k answered n done old w (a ++ b) new → IsWritten k answered n done old (w ++ a) b new
  written_sent n done old new w a b h = record {
    before = h.before;
    after = h.after;
    middle = h.middle;
    settled = h.settled;
    late = h.late ++ a;
    parts = h.parts;
    ran = h.ran;
    runs = subst (λ x. IsScript k answered (n + length h.before) h.after h.middle x new) (sym (append_assoc h.late a b)) h.runs;
    asks_first = h.asks_first;
    wrote = ap (λ x. x ++ a) h.wrote ∙ append_assoc h.settled h.late a;
  }

  -- a line that asks nothing
  pub written_quiet : (n : ℕ) (done : List (Line B)) (old mid new : I) (w left t : List ℕ) (l : Line B)
      → IsWritten k answered n done old w left mid → IsTold k answered (n + length done) l mid t new → is_asking l ≡ false
      → IsWritten k answered n (done ++ (l ∷ [])) old w (left ++ t) new
  written_quiet n done old mid new w left t l h told quiet =
      let at : n + length done ≡ n + length h.before + length h.after =
      omega (arith, ap (λ (x : List (Line B)). length x) h.parts, length-append h.before h.after) in
      record {
        before = h.before;
        after = h.after ++ (l ∷ []);
        middle = h.middle;
        settled = h.settled;
        late = h.late;
        parts = ap (λ x. x ++ (l ∷ [])) h.parts ∙ append_assoc h.before h.after (l ∷ []);
        ran = h.ran;
        runs = subst (λ x. IsScript k answered (n + length h.before) (h.after ++ (l ∷ [])) h.middle x new) (append_assoc h.late left t)
            (script_append (n + length h.before) h.after (l ∷ []) h.middle mid new (h.late ++ left) t h.runs
            (script_one (n + length h.before + length h.after) l mid new t (subst (λ m. IsTold k answered m l mid t new) at told)));
        asks_first = quiet_after h.after l h.asks_first quiet;
        wrote = h.wrote;
      }

  -- if nothing waits, all of the text is written
  pub written_all : (n : ℕ) (done : List (Line B)) (old new : I) (w : List ℕ) → IsWritten k answered n done old w [] new → IsScript k answered n done old w new
  written_all n done old new w h =
      let text : h.settled ++ (h.late ++ []) ≡ w = ap (λ x. h.settled ++ x) (append-nil h.late) ∙ sym h.wrote in
      let all = script_append n h.before h.after old h.middle new h.settled (h.late ++ []) h.ran h.runs in
      let lines : IsScript k answered n done old (h.settled ++ (h.late ++ [])) new =
      subst (λ ls. IsScript k answered n ls old (h.settled ++ (h.late ++ [])) new) (sym h.parts) all in
      subst (λ x. IsScript k answered n done old x new) text lines

  -- a line that asks, if nothing waits
  pub written_asked : (n : ℕ) (done : List (Line B)) (old mid new : I) (w t : List ℕ) (l : Line B)
      → IsWritten k answered n done old w [] mid → IsTold k answered (n + length done) l mid t new
      → IsWritten k answered n (done ++ (l ∷ [])) old w t new
  written_asked n done old mid new w t l h told = record {
    before = done;
    after = l ∷ [];
    middle = mid;
    settled = w;
    late = [];
    parts = refl;
    ran = written_all n done old mid w h;
    runs = script_one (n + length done) l mid new t told;
    asks_first = refl;
    wrote = sym (append-nil w);
  }

  told_case : (asks : Bool) (n at : ℕ) (done : List (Line B)) (start old new : I) (w waiting left : List ℕ) (l : Line B) (held holds : Option (List ℕ))
      → is_asking l ≡ asks → IsWritten k answered n done start w waiting old → at ≡ n + length done
      → (told : IsToldWhole k answered at l old new held holds waiting left)
      → IsWritten k answered n (done ++ (l ∷ [])) start (w ++ told.sent) left new
  told_case false n at done start old new w waiting left l held holds e h count told =
      written_sent n (done ++ (l ∷ [])) start new w told.sent left
      (subst (λ x. IsWritten k answered n (done ++ (l ∷ [])) start w x new) told.all
      (written_quiet n done start old new w waiting told.text l h (subst (λ m. IsTold k answered m l old told.text new) count told.told) e))
  told_case true n at done start old new w waiting left l held holds e h count told =
      let time = told.in_time e in
      let none_waits = written_sent n done start old w waiting [] (subst (λ x. IsWritten k answered n done start w x old) (sym (append-nil waiting)) h) in
      let whole = written_asked n done start old new (w ++ waiting) told.text l none_waits (subst (λ m. IsTold k answered m l old told.text new) count told.told) in
      let late = written_sent n (done ++ (l ∷ [])) start new (w ++ waiting) time.0 left
      (subst (λ x. IsWritten k answered n (done ++ (l ∷ [])) start (w ++ waiting) x new) time.2 whole) in
      subst (λ x. IsWritten k answered n (done ++ (l ∷ [])) start x left new) (append_assoc w waiting time.0 ∙ ap (λ x. w ++ x) (sym time.1)) late

  -- a line whose reply was written is done
  pub written_told : (n at : ℕ) (done : List (Line B)) (start old new : I) (w waiting left : List ℕ) (l : Line B) (held holds : Option (List ℕ))
      → IsWritten k answered n done start w waiting old → at ≡ n + length done
      → (told : IsToldWhole k answered at l old new held holds waiting left)
      → IsWritten k answered n (done ++ (l ∷ [])) start (w ++ told.sent) left new
  written_told n at done start old new w waiting left l held holds h count told =
      told_case (is_asking l) n at done start old new w waiting left l held holds refl h count told

  -- all that waits is written
  pub written_flushed : (n : ℕ) (done : List (Line B)) (start old : I) (w waiting : List ℕ)
      → IsWritten k answered n done start w waiting old → IsWritten k answered n done start (w ++ waiting) [] old
  written_flushed n done start old w waiting h =
      written_sent n done start old w waiting [] (subst (λ x. IsWritten k answered n done start w x old) (sym (append-nil waiting)) h)

  -- of what waits a front is written
  pub written_cut : (n : ℕ) (done : List (Line B)) (start old : I) (w waiting : List ℕ) (h h1 : Option (List ℕ))
      → IsWritten k answered n done start w waiting old → (cut : IsCut h h1 waiting) → IsWritten k answered n done start (w ++ cut.sent) cut.lost old
  written_cut n done start old w waiting h h1 ran cut =
      written_sent n done start old w cut.sent cut.lost (subst (λ x. IsWritten k answered n done start w x old) cut.all ran)

  -- a line that asks nothing, with its text put
  pub quiet_whole : (n : ℕ) (l : Line B) (old : I) (held holds : Option (List ℕ)) (w left t : List ℕ)
      → IsPut held holds w t left → IsTold k answered n l old t old → is_asking l ≡ false → IsToldWhole k answered n l old old held holds w left
  quiet_whole n l old held holds w left t put told quiet = record {
    text = t;
    sent = put.sent;
    wrote = put.wrote;
    all = put.all;
    told = told;
    in_time = λ asks. let never : true ≡ false = sym asks ∙ quiet in cc;
  }

  -- the same, with its text cut
  pub quiet_part : (n : ℕ) (l : Line B) (old : I) (held holds : Option (List ℕ)) (w t : List ℕ)
      → IsCut held holds (w ++ t) → IsTold k answered n l old t old → is_asking l ≡ false → IsToldPart k answered n l old old held holds w
  quiet_part n l old held holds w t cut told quiet =
      inr (cut.lost, cut.some, quiet_whole n l old held holds w cut.lost t (record { sent = cut.sent; wrote = cut.wrote; all = cut.all }) told quiet)

  -- a line that asks, once all that waited is written
  pub asked_whole : (n : ℕ) (l : Line B) (old new : I) (held middle holds : Option (List ℕ)) (w m left t : List ℕ)
      → Appends held middle w → m ≡ [] → IsPut middle holds m t left → IsTold k answered n l old t new → IsToldWhole k answered n l old new held holds w left
  asked_whole n l old new held middle holds w m left t wrote none put told =
      let all : t ≡ put.sent ++ left = ap (λ x. x ++ t) (sym none) ∙ put.all in
      record {
        text = t;
        sent = w ++ put.sent;
        wrote = Appends-trans held middle holds w put.sent wrote put.wrote;
        all = ap (λ x. w ++ x) all ∙ sym (append_assoc w put.sent left);
        told = told;
        in_time = λ asks. (put.sent, refl, all);
      }

  pub asked_part : (n : ℕ) (l : Line B) (old new : I) (held middle holds : Option (List ℕ)) (w m t : List ℕ)
      → Appends held middle w → m ≡ [] → IsCut middle holds (m ++ t) → IsTold k answered n l old t new → IsToldPart k answered n l old new held holds w
  asked_part n l old new held middle holds w m t wrote none cut told =
      inr (
        cut.lost,
        cut.some,
        asked_whole n l old new held middle holds w m cut.lost t wrote none (record { sent = cut.sent; wrote = cut.wrote; all = cut.all }) told,
      )

  -- one line more of what is fed
  pub fed_line : (n at : ℕ) (done : List (Line B)) (start old new : I) (w bytes line rest p more : List ℕ) (h h1 h2 : Option (List ℕ)) (waiting left : List ℕ)
      → (fed : IsFed k answered n done start w bytes (line ++ rest) h h1 waiting old) → at ≡ n + length (done ++ fed.more)
      → IsUnended line → IsUnended p → rest ≡ p ++ (10 ∷ more)
      → (told : IsToldWhole k answered at (line_of k (kept (line ++ p))) old new h1 h2 waiting left)
      → (next : IsFed k answered n done start w bytes ([] ++ more) h h2 left new) × (at + 1 ≡ n + length (done ++ next.more))
  fed_line n at done start old new w bytes line rest p more h h1 h2 waiting left fed count unended_line unended_p parts told =
      let l : Line B = line_of k (kept (line ++ p)) in
      let ran = written_told n at (done ++ fed.more) start old new (w ++ fed.sent) waiting left l h1 h2 fed.ran count told in (
        record {
          more = fed.more ++ (l ∷ []);
          sent = fed.sent ++ told.sent;
          wrote = Appends-trans h h1 h2 fed.sent told.sent fed.wrote told.wrote;
          ran = subst (λ ls. IsWritten k answered n ls start (w ++ (fed.sent ++ told.sent)) left new) (append_assoc done fed.more (l ∷ []))
              (subst (λ x. IsWritten k answered n ((done ++ fed.more) ++ (l ∷ [])) start x left new) (append_assoc w fed.sent told.sent) ran);
          first = λ tail. fed.first tail
              ∙ ap (λ ls. fed.more ++ ls)
              (ap (λ r. asked k ((line ++ r) ++ tail)) parts
              ∙ ap (λ x. asked k x) (ap (λ x. x ++ tail) (sym (append_assoc line p (10 ∷ more))) ∙ append_assoc (line ++ p) (10 ∷ more) tail)
              ∙ asked-line k (line ++ p) (more ++ tail) (unended-append line p unended_line unended_p)
              ∙ ap (λ (x : Line B). x ∷ asked k (more ++ tail)) (sym (kept-line k (line ++ p))))
              ∙ sym (append_assoc fed.more (l ∷ []) (asked k (more ++ tail)));
        },
        omega (arith, length-append done (fed.more ++ (l ∷ [])), length-append fed.more (l ∷ []), length-append done fed.more, count),
      )

  -- the same, by what the next line begins with and its number
  pub fed_next : (n at at2 : ℕ) (done : List (Line B)) (start old new : I) (w bytes line line2 rest p more : List ℕ) (h h1 h2 : Option (List ℕ)) (waiting left : List ℕ)
      → (fed : IsFed k answered n done start w bytes (line ++ rest) h h1 waiting old) → at ≡ n + length (done ++ fed.more)
      → IsUnended line → IsUnended p → rest ≡ p ++ (10 ∷ more)
      → IsToldWhole k answered at (line_of k (kept (line ++ p))) old new h1 h2 waiting left → line2 ≡ [] → at2 ≡ at + 1
      → (next : IsFed k answered n done start w bytes (line2 ++ more) h h2 left new) × (at2 ≡ n + length (done ++ next.more))
  fed_next n at at2 done start old new w bytes line line2 rest p more h h1 h2 waiting left fed count unended_line unended_p parts told none next_number =
      let next = fed_line n at done start old new w bytes line rest p more h h1 h2 waiting left fed count unended_line unended_p parts told in (
        record {
          more = next.0.more;
          sent = next.0.sent;
          wrote = next.0.wrote;
          ran = next.0.ran;
          first = λ tail. next.0.first tail ∙ ap (λ v. next.0.more ++ asked k ((v ++ more) ++ tail)) (sym none);
        },
        next_number ∙ next.1,
      )

  -- a write failed at a line of what is fed
  pub fed_cut : (n at : ℕ) (done : List (Line B)) (start old new : I) (w bytes line rest p more : List ℕ) (h h1 h2 : Option (List ℕ)) (waiting : List ℕ)
      → (fed : IsFed k answered n done start w bytes (line ++ rest) h h1 waiting old) → at ≡ n + length (done ++ fed.more)
      → IsUnended line → IsUnended p → rest ≡ p ++ (10 ∷ more)
      → IsToldPart k answered at (line_of k (kept (line ++ p))) old new h1 h2 waiting
      → IsFedPart k answered n done start w bytes h h2 new
  fed_cut n at done start old new w bytes line rest p more h h1 h2 waiting fed count unended_line unended_p parts (inl untold) = (
    line ++ rest,
    untold.0.lost,
    untold.0.some,
    record {
      more = fed.more;
      sent = fed.sent ++ untold.0.sent;
      wrote = Appends-trans h h1 h2 fed.sent untold.0.sent fed.wrote untold.0.wrote;
      ran = subst (λ i. IsWritten k answered n (done ++ fed.more) start (w ++ (fed.sent ++ untold.0.sent)) untold.0.lost i) (sym untold.1)
          (subst (λ x. IsWritten k answered n (done ++ fed.more) start x untold.0.lost old) (append_assoc w fed.sent untold.0.sent)
          (written_cut n (done ++ fed.more) start old (w ++ fed.sent) waiting h1 h2 fed.ran untold.0));
      first = fed.first;
    },
  )
  fed_cut n at done start old new w bytes line rest p more h h1 h2 waiting fed count unended_line unended_p parts (inr told) =
      let next = fed_line n at done start old new w bytes line rest p more h h1 h2 waiting told.0 fed count unended_line unended_p parts told.2 in
      ([] ++ more, told.0, told.1, next.0)

  -- nothing is fed yet
  pub fed_none : (n at : ℕ) (done : List (Line B)) (start old : I) (w bytes : List ℕ) (h : Option (List ℕ)) (waiting : List ℕ)
      → IsWritten k answered n done start w waiting old → at ≡ n + length done
      → (fed : IsFed k answered n done start w bytes bytes h h waiting old) × (at ≡ n + length (done ++ fed.more))
  fed_none n at done start old w bytes h waiting ran count = (
    record {
      more = [];
      sent = [];
      wrote = Appends-nil h;
      ran = subst (λ ls. IsWritten k answered n ls start (w ++ []) waiting old) (sym (append-nil done))
          (subst (λ x. IsWritten k answered n done start x waiting old) (sym (append-nil w)) ran);
      first = λ tail. refl;
    },
    count ∙ ap (λ (ls : List (Line B)). n + length ls) (sym (append-nil done)),
  )

  -- what is left of the bytes is kept, and all that waits is written
  pub fed_end : (n at : ℕ) (done : List (Line B)) (start old : I) (w bytes rest line2 : List ℕ) (h h1 h2 : Option (List ℕ)) (waiting left : List ℕ)
      → (fed : IsFed k answered n done start w bytes rest h h1 waiting old) → at ≡ n + length (done ++ fed.more)
      → IsUnended rest → line2 ≡ kept rest → left ≡ [] → Appends h1 h2 waiting
      → (next : IsFed k answered n done start w bytes line2 h h2 left old) × (at ≡ n + length (done ++ next.more))
  fed_end n at done start old w bytes rest line2 h h1 h2 waiting left fed count unended same none wrote = (
    record {
      more = fed.more;
      sent = fed.sent ++ waiting;
      wrote = Appends-trans h h1 h2 fed.sent waiting fed.wrote wrote;
      ran = subst (λ x. IsWritten k answered n (done ++ fed.more) start (w ++ (fed.sent ++ waiting)) x old) (sym none)
          (subst (λ x. IsWritten k answered n (done ++ fed.more) start x [] old) (append_assoc w fed.sent waiting)
          (written_flushed n (done ++ fed.more) start old (w ++ fed.sent) waiting fed.ran));
      first = λ tail. fed.first tail ∙ ap (λ ls. fed.more ++ ls) (asked-kept k rest tail unended ∙ ap (λ v. asked k (v ++ tail)) (sym same));
    },
    count,
  )

  pub fed_end_cut : (n : ℕ) (done : List (Line B)) (start old : I) (w bytes rest : List ℕ) (h h1 h2 : Option (List ℕ)) (waiting : List ℕ)
      → IsFed k answered n done start w bytes rest h h1 waiting old → IsCut h1 h2 waiting → IsFedPart k answered n done start w bytes h h2 old
  fed_end_cut n done start old w bytes rest h h1 h2 waiting fed cut = (
    rest,
    cut.lost,
    cut.some,
    record {
      more = fed.more;
      sent = fed.sent ++ cut.sent;
      wrote = Appends-trans h h1 h2 fed.sent cut.sent fed.wrote cut.wrote;
      ran = subst (λ x. IsWritten k answered n (done ++ fed.more) start x cut.lost old) (append_assoc w fed.sent cut.sent)
          (written_cut n (done ++ fed.more) start old (w ++ fed.sent) waiting h1 h2 fed.ran cut);
      first = fed.first;
    },
  )

  -- one piece, and then another
  pub fed_again : (start middle new : I) (input line piece line2 : List ℕ) (h h1 h2 : Option (List ℕ)) (waiting left : List ℕ) (at : ℕ)
      → (fed : IsFed k answered 1 [] start [] input line h h1 waiting middle)
      → (more : (f : IsFed k answered 1 fed.more start fed.sent (line ++ piece) line2 h1 h2 left new) × (at ≡ 1 + length (fed.more ++ f.more)))
      → (next : IsFed k answered 1 [] start [] (input ++ piece) line2 h h2 left new) × (at ≡ 1 + length next.more)
  fed_again start middle new input line piece line2 h h1 h2 waiting left at fed more = (
    record {
      more = fed.more ++ more.0.more;
      sent = fed.sent ++ more.0.sent;
      wrote = Appends-trans h h1 h2 fed.sent more.0.sent fed.wrote more.0.wrote;
      ran = more.0.ran;
      first = λ tail. ap (λ x. asked k x) (append_assoc input piece tail) ∙ fed.first (piece ++ tail)
          ∙ ap (λ ls. fed.more ++ ls) (ap (λ x. asked k x) (sym (append_assoc line piece tail)) ∙ more.0.first tail)
          ∙ sym (append_assoc fed.more more.0.more (asked k (line2 ++ tail)));
    },
    more.1,
  )

  -- the end, if no line was begun
  pub ended_none : (n : ℕ) (done : List (Line B)) (start old : I) (w begun waiting : List ℕ) (h h1 : Option (List ℕ))
      → IsWritten k answered n done start w waiting old → length begun ≡ 0 → Appends h h1 waiting
      → IsEnded k answered n done start w begun h h1 old
  ended_none n done start old w begun waiting h h1 ran none wrote =
      let no_line : asked k begun ≡ [] = ap (λ x. asked k x) (nil_from_length begun none) in
      record {
        sent = waiting;
        wrote = wrote;
        ran = subst (λ ls. IsScript k answered n ls start (w ++ waiting) old) (sym (append-nil done) ∙ ap (λ ls. done ++ ls) (sym no_line))
            (written_all n done start old (w ++ waiting) (written_flushed n done start old w waiting ran));
      }

  pub ended_none_cut : (n : ℕ) (done : List (Line B)) (start old : I) (w begun waiting : List ℕ) (h h1 : Option (List ℕ))
      → IsWritten k answered n done start w waiting old → IsCut h h1 waiting → IsEndedPart k answered n done start w begun h h1 old
  ended_none_cut n done start old w begun waiting h h1 ran cut = record {
    more = [];
    sent = cut.sent;
    lost = cut.lost;
    wrote = cut.wrote;
    ran = subst (λ ls. IsWritten k answered n ls start (w ++ cut.sent) cut.lost old) (sym (append-nil done)) (written_cut n done start old w waiting h h1 ran cut);
    some = cut.some;
    which = inl refl;
  }

  -- the end, if a line was begun
  pub ended_one : (n at : ℕ) (done : List (Line B)) (start old new : I) (w begun waiting left : List ℕ) (h h1 h2 : Option (List ℕ))
      → IsWritten k answered n done start w waiting old → at ≡ n + length done → IsUnended begun → 0 < length begun
      → IsToldWhole k answered at (line_of k begun) old new h h1 waiting left → Appends h1 h2 left
      → IsEnded k answered n done start w begun h h2 new
  ended_one n at done start old new w begun waiting left h h1 h2 ran count unended some told wrote =
      let now = written_told n at done start old new w waiting left (line_of k begun) h h1 ran count told in
      record {
        sent = told.sent ++ left;
        wrote = Appends-trans h h1 h2 told.sent left told.wrote wrote;
        ran = subst (λ ls. IsScript k answered n ls start (w ++ (told.sent ++ left)) new) (ap (λ ls. done ++ ls) (sym (asked-last k begun unended some)))
            (subst (λ x. IsScript k answered n (done ++ (line_of k begun ∷ [])) start x new) (append_assoc w told.sent left)
            (written_all n (done ++ (line_of k begun ∷ [])) start new ((w ++ told.sent) ++ left)
            (written_flushed n (done ++ (line_of k begun ∷ [])) start new (w ++ told.sent) left now)));
      }

  pub ended_one_cut : (n at : ℕ) (done : List (Line B)) (start old new : I) (w begun waiting left : List ℕ) (h h1 h2 : Option (List ℕ))
      → IsWritten k answered n done start w waiting old → at ≡ n + length done → IsUnended begun → 0 < length begun
      → IsToldWhole k answered at (line_of k begun) old new h h1 waiting left → IsCut h1 h2 left
      → IsEndedPart k answered n done start w begun h h2 new
  ended_one_cut n at done start old new w begun waiting left h h1 h2 ran count unended some told cut =
      let now = written_told n at done start old new w waiting left (line_of k begun) h h1 ran count told in
      record {
        more = line_of k begun ∷ [];
        sent = told.sent ++ cut.sent;
        lost = cut.lost;
        wrote = Appends-trans h h1 h2 told.sent cut.sent told.wrote cut.wrote;
        ran = subst (λ x. IsWritten k answered n (done ++ (line_of k begun ∷ [])) start x cut.lost new) (append_assoc w told.sent cut.sent)
            (written_cut n (done ++ (line_of k begun ∷ [])) start new (w ++ told.sent) left h1 h2 now cut);
        some = cut.some;
        which = inr (sym (asked-last k begun unended some));
      }

  pub ended_part : (n at : ℕ) (done : List (Line B)) (start old new : I) (w begun waiting : List ℕ) (h h1 : Option (List ℕ))
      → IsWritten k answered n done start w waiting old → at ≡ n + length done → IsUnended begun → 0 < length begun
      → IsToldPart k answered at (line_of k begun) old new h h1 waiting → IsEndedPart k answered n done start w begun h h1 new
  ended_part n at done start old new w begun waiting h h1 ran count unended some (inl untold) =
      subst (λ i. IsEndedPart k answered n done start w begun h h1 i) (sym untold.1) (ended_none_cut n done start old w begun waiting h h1 ran untold.0)
  ended_part n at done start old new w begun waiting h h1 ran count unended some (inr told) = record {
    more = line_of k begun ∷ [];
    sent = told.2.sent;
    lost = told.0;
    wrote = told.2.wrote;
    ran = written_told n at done start old new w waiting told.0 (line_of k begun) h h1 ran count told.2;
    some = told.1;
    which = inr (sym (asked-last k begun unended some));
  }

  -- a read failed: what was fed is all that was done
  pub stopped_by_read : (start old : I) (input line waiting : List ℕ) (had middle left held holds : Option (List ℕ))
      → Consumes had middle input → Keeps middle left → IsFed k answered 1 [] start [] input line held holds waiting old → IsUnended line → waiting ≡ []
      → IsStoppedByRead k answered had left held holds start old
  stopped_by_read start old input line waiting had middle left held holds read kept_as fed unended none = record {
    input = input;
    text = fed.sent;
    done = fed.more;
    begun = line;
    read = Consumes-kept had middle left input read kept_as;
    wrote = fed.wrote;
    first = fed.first;
    unended = unended;
    ran = written_all 1 fed.more start old fed.sent (subst (λ x. IsWritten k answered 1 fed.more start fed.sent x old) none fed.ran);
  }

  -- all that was asked, at the end of the input
  all_asked : (input line : List ℕ) (more : List (Line B)) → FirstLines k input more line → asked k input ≡ more ++ asked k line
  all_asked input line more first =
      ap (λ x. asked k x) (sym (append-nil input)) ∙ first [] ∙ ap (λ x. more ++ asked k x) (append-nil line)

  to_end : (had middle left : Option (List ℕ)) (input : List ℕ) → Consumes had middle input → Consumes middle left [] → Consumes had left input
  to_end had middle left input read none = subst (λ x. Consumes had left x) (append-nil input) (Consumes-trans had middle left input [] read none)

  -- the end was reached
  pub done_at_end : (start old new : I) (input line waiting : List ℕ) (had middle left held holds after : Option (List ℕ))
      → Consumes had middle input → Consumes middle left [] → IsAtEnd left
      → (fed : IsFed k answered 1 [] start [] input line held holds waiting old) → IsEnded k answered 1 fed.more start fed.sent line holds after new
      → IsDone k answered had left held after start new
  done_at_end start old new input line waiting had middle left held holds after read none at_end fed ended = record {
    input = input;
    text = fed.sent ++ ended.sent;
    read = to_end had middle left input read none;
    at_end = at_end;
    wrote = Appends-trans held holds after fed.sent ended.sent fed.wrote ended.wrote;
    ran = subst (λ ls. IsScript k answered 1 ls start (fed.sent ++ ended.sent) new) (sym (all_asked input line fed.more fed.first)) ended.ran;
  }

  end_lines : (left : Option (List ℕ)) (input line : List ℕ) (done more : List (Line B)) → IsAtEnd left → FirstLines k input done line
      → ((more ≡ []) ⊎ (more ≡ asked k line)) → AreDone k answered left input (done ++ more)
  end_lines left input line done more at_end first (inl none) =
      inl (line, subst (λ ls. FirstLines k input ls line) (sym (append-nil done) ∙ ap (λ ls. done ++ ls) (sym none)) first)
  end_lines left input line done more at_end first (inr all) = inr (at_end, all_asked input line done first ∙ ap (λ ls. done ++ ls) (sym all))

  -- a write failed at the end
  pub stopped_at_end : (start old new : I) (input line waiting : List ℕ) (had middle left held holds after : Option (List ℕ))
      → Consumes had middle input → Consumes middle left [] → IsAtEnd left
      → (fed : IsFed k answered 1 [] start [] input line held holds waiting old) → IsEndedPart k answered 1 fed.more start fed.sent line holds after new
      → IsStoppedByWrite k answered had left held after start new
  stopped_at_end start old new input line waiting had middle left held holds after read none at_end fed ended = record {
    input = input;
    done = fed.more ++ ended.more;
    written = fed.sent ++ ended.sent;
    unwritten = ended.lost;
    read = to_end had middle left input read none;
    wrote = Appends-trans held holds after fed.sent ended.sent fed.wrote ended.wrote;
    first = end_lines left input line fed.more ended.more at_end fed.first ended.which;
    ran = ended.ran;
    some = ended.some;
  }

  -- a write failed at a piece
  pub stopped_at_piece : (start old new : I) (input line piece waiting : List ℕ) (had middle left held holds after : Option (List ℕ))
      → Consumes had middle input → Consumes middle left piece
      → (fed : IsFed k answered 1 [] start [] input line held holds waiting old) → IsFedPart k answered 1 fed.more start fed.sent (line ++ piece) holds after new
      → IsStoppedByWrite k answered had left held after start new
  stopped_at_piece start old new input line piece waiting had middle left held holds after read next fed part =
      let more = part.3 in
      record {
        input = input ++ piece;
        done = fed.more ++ more.more;
        written = fed.sent ++ more.sent;
        unwritten = part.1;
        read = Consumes-trans had middle left input piece read next;
        wrote = Appends-trans held holds after fed.sent more.sent fed.wrote more.wrote;
        first = inl (
          part.0,
          λ tail. ap (λ x. asked k x) (append_assoc input piece tail) ∙ fed.first (piece ++ tail)
              ∙ ap (λ ls. fed.more ++ ls) (ap (λ x. asked k x) (sym (append_assoc line piece tail)) ∙ more.first tail)
              ∙ sym (append_assoc fed.more more.more (asked k (part.0 ++ tail))),
        );
        ran = more.ran;
        some = part.2;
      }

  -- Between two reads: what was read was fed, and all its text is written.
  pub record IsReached (start now : I) (had left held holds : Option (List ℕ)) (line waiting : List ℕ) (number most : ℕ) : Type 0 where
    pub input : List ℕ
    pub read : Consumes had left input
    pub fed : IsFed k answered 1 [] start [] input line held holds waiting now
    pub count : number ≡ 1 + length fed.more
    pub unended : IsUnended line
    pub none : waiting ≡ []
    pub bound : number ≤ most

  pub reached_start : (start : I) (had held : Option (List ℕ)) (line waiting : List ℕ) (number most : ℕ)
      → line ≡ [] → waiting ≡ [] → number ≡ 1 → number ≤ most → IsReached start start had had held held line waiting number most
  reached_start start had held line waiting number most no_line none one bound = record {
    input = [];
    read = Consumes-nil had;
    fed = record {
      more = [];
      sent = [];
      wrote = Appends-nil held;
      ran = subst (λ x. IsWritten k answered 1 [] start [] x start) (sym none) (written_none 1 start);
      first = λ tail. ap (λ v. asked k (v ++ tail)) (sym no_line);
    };
    count = one;
    unended = ap (λ v. list_any (λ b. eqb b 10) v) no_line;
    none = none;
    bound = bound;
  }

  pub reached_kept : (start now : I) (had left left2 held holds : Option (List ℕ)) (line waiting : List ℕ) (number most most2 : ℕ)
      → IsReached start now had left held holds line waiting number most → Keeps left left2 → most ≤ most2
      → IsReached start now had left2 held holds line waiting number most2
  reached_kept start now had left left2 held holds line waiting number most most2 r kept_as more = record {
    input = r.input;
    read = Consumes-kept had left left2 r.input r.read kept_as;
    fed = r.fed;
    count = r.count;
    unended = r.unended;
    none = r.none;
    bound = let bound = r.bound in omega arith;
  }

  pub reached_more : (start now new : I) (had left left2 held holds holds2 : Option (List ℕ)) (line line2 waiting waiting2 piece : List ℕ) (number number2 most most2 : ℕ)
      → (r : IsReached start now had left held holds line waiting number most) → Consumes left left2 piece
      → (f : IsFed k answered 1 r.fed.more start r.fed.sent (line ++ piece) line2 holds holds2 waiting2 new) × (number2 ≡ 1 + length (r.fed.more ++ f.more))
      → IsUnended line2 → waiting2 ≡ [] → number2 ≤ most2
      → IsReached start new had left2 held holds2 line2 waiting2 number2 most2
  reached_more start now new had left left2 held holds holds2 line line2 waiting waiting2 piece number number2 most most2 r next more unended none bound =
      let all = fed_again start now new r.input line piece line2 held holds holds2 waiting waiting2 number2 r.fed more in
      record {
        input = r.input ++ piece;
        read = Consumes-trans had left left2 r.input piece r.read next;
        fed = all.0;
        count = all.1;
        unended = unended;
        none = none;
        bound = bound;
      }
