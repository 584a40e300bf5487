use Rattle.std.proofs.Common.{ℕ, List, ◌≡◌, ◌∙◌, ap, subst}
use Rattle.std.specs.Bool.{OnTrue}
use Rattle.gx_page.specs.Edits.{with_items}
use Rattle.gx_node.specs.Reading.{format_of}
use Rattle.gx_node.specs.Small.{mark_fits, mark_made, pair_fits, pair_made, bound_fits, bound_made, slots_fit, slots_made}
use Rattle.gx_record.specs.Slots.{slots_in}
use Rattle.gx_durable.specs.Classes.{change_of}
use Rattle.gx_found_log.proofs.classes.Changing.{fits_so, made_on, same_slots}
use Rattle.gx_found_log.proofs.classes.OfClassReadable.change.Goals as goal

pub returns-in-SetMark-clause-fits : goal.returns-in-SetMark-clause-fits
unfolding change_of
returns-in-SetMark-clause-fits g c =
    let w = c.in-SetMark in
    let f = format_of g.K.KeyClass in
    rw w.is (fits_so f (λ most page. mark_fits f w.row w.key.now page) (mark_made f w.row w.key.now w.marked) c.args.page.now c.requires.page c.args.most c.mark_pair.result c.mark_pair.ensures.fits)

pub returns-in-SetMark-clause-made : goal.returns-in-SetMark-clause-made
unfolding change_of
returns-in-SetMark-clause-made g c =
    let w = c.in-SetMark in
    let f = format_of g.K.KeyClass in
    rw w.is (made_on f (λ most page. mark_fits f w.row w.key.now page) (mark_made f w.row w.key.now w.marked) c.args.page.now c.requires.page c.mark_pair.result c.mark_pair.new.page
    c.mark_pair.ensures.made)

pub returns-in-AddPair-clause-fits : goal.returns-in-AddPair-clause-fits
unfolding change_of
returns-in-AddPair-clause-fits g c =
    let w = c.in-AddPair in
    let f = format_of g.K.KeyClass in
    rw w.is (fits_so f (λ most page. pair_fits f most w.row w.key.now page) (pair_made w.row w.key.now) c.args.page.now c.requires.page c.args.most c.add_pair.result c.add_pair.ensures.fits)

pub returns-in-AddPair-clause-made : goal.returns-in-AddPair-clause-made
unfolding change_of
returns-in-AddPair-clause-made g c =
    let w = c.in-AddPair in
    let f = format_of g.K.KeyClass in
    rw w.is (made_on f (λ most page. pair_fits f most w.row w.key.now page) (pair_made w.row w.key.now) c.args.page.now c.requires.page c.add_pair.result c.add_pair.new.page
    c.add_pair.ensures.made)

pub returns-in-SetKey-clause-fits : goal.returns-in-SetKey-clause-fits
unfolding change_of
returns-in-SetKey-clause-fits g c =
    let w = c.in-SetKey in
    let f = format_of g.K.KeyClass in
    rw w.is (fits_so f (λ most page. bound_fits f w.slot w.key.now page) (bound_made f w.slot w.key.now) c.args.page.now c.requires.page c.args.most c.set_key.result (c.set_key.ensures.fits ∙ ap (λ n. bound_fits f n w.key.now c.args.page.now) c.from.ensures))

pub returns-in-SetKey-clause-made : goal.returns-in-SetKey-clause-made
unfolding change_of
returns-in-SetKey-clause-made g c =
    let w = c.in-SetKey in
    let f = format_of g.K.KeyClass in
    rw w.is (made_on f (λ most page. bound_fits f w.slot w.key.now page) (bound_made f w.slot w.key.now) c.args.page.now c.requires.page c.set_key.result c.set_key.new.page
    (subst (λ n. OnTrue c.set_key.result (c.set_key.new.page ≡ with_items c.args.page.now (bound_made f n w.key.now c.args.page.now.items))) c.from.ensures c.set_key.ensures.made))

pub returns-in-RemoveSlots-clause-fits : goal.returns-in-RemoveSlots-clause-fits
unfolding change_of
returns-in-RemoveSlots-clause-fits g c =
    let w = c.in-RemoveSlots in
    let f = format_of g.K.KeyClass in
    rw w.is (fits_so f (λ most page. slots_fit f (slots_in w.slots.bytes.now) page) (slots_made (slots_in w.slots.bytes.now)) c.args.page.now c.requires.page c.args.most c.remove_slots.result (c.remove_slots.ensures.fits ∙ ap (λ (s : List ℕ). slots_fit f s c.args.page.now) (same_slots w.slots.bytes.now)))

pub returns-in-RemoveSlots-clause-made : goal.returns-in-RemoveSlots-clause-made
unfolding change_of
returns-in-RemoveSlots-clause-made g c =
    let w = c.in-RemoveSlots in
    let f = format_of g.K.KeyClass in
    rw w.is (made_on f (λ most page. slots_fit f (slots_in w.slots.bytes.now) page) (slots_made (slots_in w.slots.bytes.now)) c.args.page.now c.requires.page c.remove_slots.result c.remove_slots.new.page
    (subst (λ (s : List ℕ). OnTrue c.remove_slots.result (c.remove_slots.new.page ≡ with_items c.args.page.now (slots_made s c.args.page.now.items))) (same_slots w.slots.bytes.now) c.remove_slots.ensures.made))
