-- Pages by number, each with the bytes of an image: which image is kept of a page, and what one more makes of them.
use Rattle.std.specs.Prelude.{◌≡◌, ℕ, ◌==◌, Bool, if◌then◌else◌, Option, None, Some, List, [], ◌∷◌}
use Rattle.std.specs.List.{list_all}
use Rattle.std.specs.Option.{option_map}
use Rattle.gx_page.specs.Reading.{IsImage}
use Rattle.gx_recovery.specs.Damage.{is_page}
use Rattle.gx_record.specs.Rec.{Rec, Pages, Write, Commit, End, Counters, Note, Bit, Add, Widen, Sweep}
use Rattle.gx_recovery.specs.Records.{Record}
use Rattle.gx_recovery.specs.Given.{given}
use Rattle.gx_durable.specs.Spelled.{Reading}

-- a page's number, and the bytes of its image
abbrev pub Imaged : Type 0
Imaged = ℕ × List ℕ

-- the bytes are an image of a page
abbrev pub HasImage : Imaged → Type 0
HasImage x = IsImage x.1

-- the image that is kept of page p
abbrev pub image_in : ℕ → List Imaged → Option (List ℕ)
image_in p [] = None
image_in p (x ∷ xs) = if x.0 == p then Some x.1 else image_in p xs

-- with this one, in the place of what was kept of its page
abbrev pub with_image : Imaged → List Imaged → List Imaged
with_image new [] = new ∷ []
with_image new (x ∷ xs) = if x.0 == new.0 then new ∷ xs else x ∷ with_image new xs

-- with these, one after another
abbrev pub with_all : List Imaged → List Imaged → List Imaged
with_all [] kept = kept
with_all (x ∷ xs) kept = with_all xs (with_image x kept)

-- each page is kept once
abbrev pub AreOnce : List Imaged → Type 0
AreOnce [] = Unit {0}
AreOnce (x ∷ xs) = (image_in x.0 xs ≡ None) × AreOnce xs

-- a device of so many pages has each page
abbrev pub are_on_device : ℕ → List Imaged → Bool
are_on_device pages xs = list_all (λ x. is_page pages x.0) xs

-- the images that a record gives, in its order
abbrev pub images_of : Rec → List Imaged
images_of (Pages counter used pages) = pages
images_of (Write tx row key before after leaf image) = (leaf, image) ∷ []
images_of (Commit tx n) = []
images_of (End tx) = []
images_of (Counters n counter used next) = []
images_of (Note tx row key before leaf) = []
images_of (Bit tx row key before after leaf) = []
images_of (Add tx row key leaf) = []
images_of (Widen page slot key) = []
images_of (Sweep page slots) = []

-- What is kept of each page is what the log gives of it; of a page that it doesn't give nothing is kept.
abbrev pub IsGiven : {E P : Type 0} → Reading E P → List Imaged → List (Record E P) → Type 0
IsGiven r kept log = (p : ℕ) → option_map r.content (image_in p kept) ≡ given p log
