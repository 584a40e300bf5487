use Rattle.std.proofs.Common.{◌≡◌, ◌∙◌, ◌||◌, ap, ap₂, Bool, false}
use Rattle.std.proofs.lemmas.Result.{IfOk-weaker}
use Rattle.clap.specs.Simple.{app_of_fields}
use Rattle.clap.specs.Words.{with_rule}
use Rattle.gx_words.proofs.words.format.Goals as goal

-- no argument is for the commands below, if none was before and the one that is added isn't
still : (before added now : Bool) → now ≡ (before || added) → before ≡ false → added ≡ false → now ≡ false
still before added now is none own = is ∙ ap₂ (λ x y. x || y) none own

pub returns : goal.returns
returns c =
    let named = ap app_of_fields c.after_help.ensures ∙ (ap app_of_fields c.about.ensures ∙ c.new.ensures.app) in
    let with_file = c.in_ok-arg.ensures.shape c.file.ensures.1 ∙ ap₂ with_rule named c.file.ensures.0 in
    let with_pages = c.in_ok-arg-2.ensures.shape c.pages.ensures.1 ∙ ap₂ with_rule with_file c.pages.ensures.0 in
    let with_most = c.in_ok-arg-3.ensures.shape c.most.ensures.1 ∙ ap₂ with_rule with_pages c.most.ensures.0 in
    let none = ap (λ f. f.has_globals) c.after_help.ensures ∙ (ap (λ f. f.has_globals) c.about.ensures ∙ c.new.ensures.local) in
    let none_of_file = still _ _ _ c.in_ok-arg.ensures.globals none c.file.ensures.1 in
    let none_of_pages = still _ _ _ c.in_ok-arg-2.ensures.globals none_of_file c.pages.ensures.1 in
    let none_of_most = still _ _ _ c.in_ok-arg-3.ensures.globals none_of_pages c.most.ensures.1 in
    IfOk-weaker c.arg-4.result _ _
    (λ r adds. (adds.shape c.class.ensures.1 ∙ ap₂ with_rule with_most c.class.ensures.0, still _ _ _ adds.globals none_of_most c.class.ensures.1)) c.arg-4.ensures
