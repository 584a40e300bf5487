-- The status of a refused opening, and what is reported to the user.
use Rattle.std.proofs.Common.{◌≡◌, ℕ, Bool, List, refl}
use Rattle.gx_geom.specs.declared.refusal.Refusal.{Refusal}
use Rattle.gx_geom.specs.declared.refusal.Refusal.TheVariants.{Absent, BadBox, BadParameter, BadSession, Busy, CallOpen, ClaimsFull, Damaged, Device, Failed, HistoryFull, InTransaction, Memory, NoCall, NoTransaction, NotFormatted, OldVersion, PagesFull, PredicatesFull, Present, TooSmall}
use Rattle.gx_machine.specs.Keys.{Members}
use Rattle.gx_class.specs.Traits.{traits_of}
use Rattle.gx_class.specs.declared.class.KeyClass.{Ghosts}
use Rattle.gx_disk.specs.Device as disk
use Rattle.gx_commands.specs.Streams.{Outputs}
use Rattle.gx_geom.specs.Refusals.{refusal_text}
use Rattle.gx_commands.specs.Lines.{sentence_of}
use Rattle.gx_commands.specs.Refusing.{Refuses, TellsOpening}

-- a refusal without a separate sentence is reported to the user by its text
pub told_by_text : (why : Refusal) → (why ≡ Memory → ⊥) → (why ≡ Device → ⊥) → (why ≡ Failed → ⊥) → (why ≡ Damaged → ⊥) → (why ≡ NotFormatted → ⊥)
    → (why ≡ TooSmall → ⊥) → (why ≡ BadParameter → ⊥) → (why ≡ OldVersion → ⊥) → refusal_text why ≡ sentence_of why
told_by_text Memory a b c d e f g h = absurd (a refl)
told_by_text Device a b c d e f g h = absurd (b refl)
told_by_text Failed a b c d e f g h = absurd (c refl)
told_by_text Damaged a b c d e f g h = absurd (d refl)
told_by_text NotFormatted a b c d e f g h = absurd (e refl)
told_by_text TooSmall a b c d e f g h = absurd (f refl)
told_by_text BadParameter a b c d e f g h = absurd (g refl)
told_by_text OldVersion a b c d e f g h = absurd (h refl)
told_by_text (Busy s) a b c d e f g h = refl
told_by_text NoTransaction a b c d e f g h = refl
told_by_text InTransaction a b c d e f g h = refl
told_by_text Present a b c d e f g h = refl
told_by_text Absent a b c d e f g h = refl
told_by_text PagesFull a b c d e f g h = refl
told_by_text ClaimsFull a b c d e f g h = refl
told_by_text PredicatesFull a b c d e f g h = refl
told_by_text BadBox a b c d e f g h = refl
told_by_text BadSession a b c d e f g h = refl
told_by_text CallOpen a b c d e f g h = refl
told_by_text NoCall a b c d e f g h = refl
told_by_text HistoryFull a b c d e f g h = refl

module _ {B C D : Type 0} (shape : Members B) (is_key : B → Bool) (said : List ℕ → B) (class : Ghosts C B) (state : D → disk.Device) where
  -- it is 1, whatever it was refused with
  pub refused_status : (number : ℕ) (why : Refusal) (disk after : D) (old new : Outputs) (status : ℕ)
      → TellsOpening shape (traits_of is_key said class) state number why disk after old new status → status ≡ 1
  refused_status number Damaged disk after old new status told = told.status_is
  refused_status number (Busy s) disk after old new status told = told.0.status_is
  refused_status number NoTransaction disk after old new status told = told.0.status_is
  refused_status number InTransaction disk after old new status told = told.0.status_is
  refused_status number Present disk after old new status told = told.0.status_is
  refused_status number Absent disk after old new status told = told.0.status_is
  refused_status number PagesFull disk after old new status told = told.0.status_is
  refused_status number ClaimsFull disk after old new status told = told.0.status_is
  refused_status number PredicatesFull disk after old new status told = told.0.status_is
  refused_status number BadBox disk after old new status told = told.0.status_is
  refused_status number Memory disk after old new status told = told.0.status_is
  refused_status number Device disk after old new status told = told.0.status_is
  refused_status number Failed disk after old new status told = told.0.status_is
  refused_status number NotFormatted disk after old new status told = told.0.status_is
  refused_status number BadSession disk after old new status told = told.0.status_is
  refused_status number CallOpen disk after old new status told = told.0.status_is
  refused_status number TooSmall disk after old new status told = told.0.status_is
  refused_status number BadParameter disk after old new status told = told.0.status_is
  refused_status number NoCall disk after old new status told = told.0.status_is
  refused_status number HistoryFull disk after old new status told = told.0.status_is
  refused_status number OldVersion disk after old new status told = told.0.status_is

  -- a refusal that isn't for damage is reported by its meaning, and the device stays
  pub told_refused : (number : ℕ) (why : Refusal) (disk : D) (old new : Outputs) (status : ℕ) → (why ≡ Damaged → ⊥) → Refuses why old new status
      → TellsOpening shape (traits_of is_key said class) state number why disk disk old new status
  told_refused number Damaged disk old new status other told = absurd (other refl)
  told_refused number (Busy s) disk old new status other told = (told, refl)
  told_refused number NoTransaction disk old new status other told = (told, refl)
  told_refused number InTransaction disk old new status other told = (told, refl)
  told_refused number Present disk old new status other told = (told, refl)
  told_refused number Absent disk old new status other told = (told, refl)
  told_refused number PagesFull disk old new status other told = (told, refl)
  told_refused number ClaimsFull disk old new status other told = (told, refl)
  told_refused number PredicatesFull disk old new status other told = (told, refl)
  told_refused number BadBox disk old new status other told = (told, refl)
  told_refused number Memory disk old new status other told = (told, refl)
  told_refused number Device disk old new status other told = (told, refl)
  told_refused number Failed disk old new status other told = (told, refl)
  told_refused number NotFormatted disk old new status other told = (told, refl)
  told_refused number BadSession disk old new status other told = (told, refl)
  told_refused number CallOpen disk old new status other told = (told, refl)
  told_refused number TooSmall disk old new status other told = (told, refl)
  told_refused number BadParameter disk old new status other told = (told, refl)
  told_refused number NoCall disk old new status other told = (told, refl)
  told_refused number HistoryFull disk old new status other told = (told, refl)
  told_refused number OldVersion disk old new status other told = (told, refl)
