use Rattle.std.proofs.Common.{◌≡◌, ℕ, ◌-◌, ◌&&◌, ap, sym, ◌∙◌, arith, List, [], ◌∷◌, length, drop, take}
use Rattle.std.proofs.lemmas.List.{drop-drop, length-drop, take_all}
use Rattle.gx_class.specs.Boxes.{number_of, corners_of}
use Rattle.gx_class.specs.Probes.{corners, are_between}
use Rattle.gx_class.specs.SolidKeys.{corners_of as solid_corners_of}
use Rattle.gx_class.specs.SolidProbes.{front_corners, back_corners}
use Rattle.gx_class.specs.SolidReadings.{corners_back}
use Rattle.gx_class.proofs.box3_probe.Box3ClassProbing.test.Goals as goal

front_read : (bytes : List ℕ) → corners (corners_of bytes) ≡ front_corners (solid_corners_of bytes)
unfolding corners_of solid_corners_of
front_read bytes i = corners (corners_of bytes)

back_read : (bytes : List ℕ) → corners (corners_of (drop 8 bytes)) ≡ back_corners (solid_corners_of bytes)
unfolding corners_of solid_corners_of
back_read bytes i =
    number_of (take 4 (drop-drop 0 8 bytes i)) ∷ number_of (take 4 (drop-drop 4 8 bytes i))
    ∷ number_of (take 4 (drop-drop 8 8 bytes i)) ∷ number_of (take 4 (drop-drop 12 8 bytes i)) ∷ []

-- what is after the first eight bytes is all of it
rest : (bytes : List ℕ) → take (length bytes - 8) (drop 8 bytes) ≡ drop 8 bytes
rest bytes = take_all (length bytes - 8) (drop 8 bytes) (omega (arith, length-drop 8 bytes))

pub returns-then-passes : goal.returns-then-passes
returns-then-passes c key is e =
    let bytes = c.args.bytes.now in
    let read = ap solid_corners_of e ∙ corners_back key is in
    let front = c.passes.ensures ∙ ap (are_between c.args.probe.now.front.low c.args.probe.now.front.high) (front_read bytes ∙ ap front_corners read) in
    let back = c.passes-then-passes.ensures ∙ ap (are_between c.args.probe.now.back.low c.args.probe.now.back.high)
    (ap (λ l. corners (corners_of l)) (rest bytes) ∙ back_read bytes ∙ ap back_corners read) in
    back ∙ ap (λ t. t && are_between c.args.probe.now.back.low c.args.probe.now.back.high (back_corners key)) (sym c.if-passes.true ∙ front)

pub returns-else-passes : goal.returns-else-passes
returns-else-passes c key is e =
    let bytes = c.args.bytes.now in
    let read = ap solid_corners_of e ∙ corners_back key is in
    let front = c.passes.ensures ∙ ap (are_between c.args.probe.now.front.low c.args.probe.now.front.high) (front_read bytes ∙ ap front_corners read) in
    c.if-passes.false ∙ ap (λ t. t && are_between c.args.probe.now.back.low c.args.probe.now.back.high (back_corners key)) (sym c.if-passes.false ∙ front)
