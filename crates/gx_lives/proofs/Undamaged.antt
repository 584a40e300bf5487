-- An opening in a life finds no damage.
use Rattle.std.proofs.Common.{◌≡◌, ◌⊎◌, inl, inr, refl, subst, ℕ, ◌≤◌, Bool, List, Result, Ok, Err, arith}
use Rattle.std.specs.Prelude.{IfErr}
use Rattle.gx_geom.specs.declared.refusal.Refusal.{Refusal}
use Rattle.gx_geom.specs.declared.refusal.Refusal.TheVariants as refusal
use Rattle.gx_class.specs.Traits.{traits_of}
use Rattle.gx_class.specs.declared.class.KeyClass.{Ghosts}
use Rattle.gx_disk.specs.Device.{Device}
use Rattle.gx_durable.specs.Area.{area_of}
use Rattle.gx_durable.specs.Fitting.{AreGood}
use Rattle.gx_durable.specs.Spelled.{Reading}
use Rattle.gx_durable.proofs.Legality.{used_fits}
use Rattle.gx_found_log.specs.declared.found.FoundLog.{FoundLog}
use Rattle.gx_found_log.specs.Found.{HasUndamaged}
use Rattle.gx_format.specs.Formatting.{sectors_of}
use Rattle.gx_glog.specs.Cuts.{open_bodies}
use Rattle.gx_glog.specs.Parameters.{Fit}
use Rattle.gx_glog.specs.declared.parameters.Parameters.{Parameters}
use Rattle.gx_index_laws.specs.Classes.{Class, IsLawful, Page, known_of, tree_in}
use Rattle.gx_machine.specs.declared.entry.Entry.{Entry}
use Rattle.gx_machine.specs.Keys.{Members}
use Rattle.gx_machine.specs.Machine.{Machine}
use Rattle.gx_node.specs.Reading.{Format, format_of, is_node}
use Rattle.gx_restart.specs.Beginning.{HasFailed}
use Rattle.gx_restart.specs.Opened.{IsStopped}
use Rattle.gx_opening.specs.Formatted.{IsAllowed, MaySettle}
use Rattle.gx_opening.specs.Laid.{IsLaid}
use Rattle.gx_opening.specs.Sound.{AreSound}
use Rattle.gx_opening.specs.Standing.{IsFormatted, IsUnlaid, IsUnsound, known_for, limits_of, reading}
use Rattle.gx_opening.proofs.Found.{good_sound}
use Rattle.gx_opening.proofs.Heads.{one_magic}
use Rattle.gx_opening.proofs.Stood.{one_saying}
use Rattle.gx_page.specs.Reading.{read_of}
use Rattle.gx_pool.specs.Area.{IsPassing}
use Rattle.gx_durable.specs.Classes.{class_of, reading_of}
use Rattle.gx_durable.proofs.Used.{known_lawful, reads_used}
use Rattle.gx_recovery.specs.Damage.{records_of}
use Rattle.gx_recovery.specs.Known as known
use Rattle.gx_recovery.specs.Known.{Known, Tree}
use Rattle.gx_recovery.specs.Records.{Record}
use Rattle.gx_recovery.specs.Redo.{tree_of}
use Rattle.gx_recovery.proofs.DamageItems.{bodies_log}
use Rattle.gx_node.specs.Legal.{ChildFits}
use Rattle.gx_node.specs.Lists.{Each}
use Rattle.gx_node.specs.Trees.{Child}
use Rattle.gx_lives.specs.Bearing.{HasSets}
use Rattle.gx_lives.proofs.Images.{good_log, magic, own, says}
use Rattle.gx_lives.proofs.Narrow.{each_weaker, narrow}

module _ {C B D : Type 0} (shape : Members B) (proper : B → Bool) (said : List ℕ → B) (class : Ghosts C B) (state : D → Device) (p : Parameters)
    (lawful : IsLawful (class_of shape proper (limits_of p))) (m : Machine B) (d : Device) (sets : HasSets shape (traits_of proper said class) state p m d) where
  abbrev f : Format B
  f = format_of class

  abbrev c : Class B
  c = class_of shape proper (limits_of p)

  abbrev k : Known (Entry B) (Page B)
  k = known_of c

  abbrev r : Reading (Entry B) (Page B)
  r = reading_of said f

  kl : known.IsLawful k
  kl = known_lawful c lawful.keys

  -- it is formatted for what it was
  pub formatted_so : (code : ℕ) → IsAllowed code p → Fit p → IsFormatted shape proper said f code d p
  formatted_so code allowed fit = record {
    magic = magic shape proper said class state p lawful m d sets;
    says = says shape proper said class state p lawful m d sets fit;
    allowed = allowed;
    large = sets.large;
  }

  -- the log of what is seen is undamaged
  log_is : HasUndamaged k r d.seen
  unfolding open_bodies
  log_is =
      let has = own shape proper said class state p lawful m d sets in
      record { sizes = has.sizes; bodies = has.stands.bodies; told = has.stands.told; undamaged = has.stands.undamaged }

  -- and the pages after it are sound, once they are laid
  module _ (e : Device) (log : FoundLog (Entry B)) (laid : IsLaid k r d.seen e log) where
    abbrev records : List (Record (Entry B) (Page B))
    records = records_of laid.is.log.bodies

    abbrev after : Tree (Page B)
    after = tree_of k (area_of r p.pages d.seen) records

    good : AreGood k r (area_of r p.pages d.seen) records
    good = good_log shape proper said class state p lawful m d sets laid.is.log

    in_range : after.used ≤ p.pages
    in_range = used_fits k kl r records (bodies_log k laid.is.log.bodies laid.is.log.undamaged)

    -- a legal tree's entries name pages of the device
    few_children : (page : ℕ) → 1 ≤ page → page ≤ after.used → Each (λ (child : Child B). child.page ≤ p.pages) (after.page page).node.children
    few_children page low high =
        let fits = good.good.sound.pages page (low, high) in
        each_weaker (ChildFits c.rules (tree_in after) (after.page page).node.level) (λ (child : Child B). child.page ≤ p.pages) (after.page page).node.children
        (λ child is. (let used = is.used in let few = in_range in omega (arith, used, few))) fits.children

    passing : (page : ℕ) (bytes : List ℕ) → 1 ≤ page → page ≤ after.used → after.page page ≡ r.content bytes → r.fits page (r.content bytes) → IsPassing (is_node f p.pages) page bytes
    passing page bytes low high there fits =
        let few = subst (λ (x : Page B). Each (λ (child : Child B). child.page ≤ p.pages) x.node.children) there (few_children page low high) in
        let is : IsPassing (is_node f fits.0) page bytes = fits.1 in
        record { image = is.image; number = is.number; passing = narrow f fits.0 p.pages (read_of bytes) few is.passing }

    sound : AreSound k r (is_node f p.pages) log.analysis.told e.seen
    sound = good_sound k kl r (reads_used c) (is_node f p.pages) d.seen e log laid passing good

  module _ (code : ℕ) (formatted : IsFormatted shape proper said f code d p) (why : Refusal) where
    same_saying : (q : Parameters) → IsFormatted shape proper said f code d q → q ≡ p
    same_saying q other = one_saying d.seen q p other.says formatted.says

    abbrev Unlaid : Parameters → Type 0
    Unlaid q = why ≡ refusal.Damaged → HasUndamaged (known_for shape proper said f q) (reading shape proper said f) d.seen → ⊥

    not_unlaid : IsUnlaid shape proper said f code d why → HasFailed why
    not_unlaid un = elim un.cause [
      | inl device ↦ inl device
      | inr damaged ↦ absurd (subst Unlaid (same_saying un.parameters un.formatted) un.damaged damaged log_is)
    ]

    module _ (e : Device) where
      abbrev Unsound : Parameters → Type 0
      Unsound q = (log : FoundLog (Entry B)) × IsLaid (known_for shape proper said f q) (reading shape proper said f) d.seen e log
          × (why ≡ refusal.Damaged → AreSound (known_for shape proper said f q) (reading shape proper said f) (is_node f q.pages) log.analysis.told e.seen → ⊥)

      not_unsound : IsUnsound shape proper said f code d e why → HasFailed why
      not_unsound un = elim un.cause [
        | inl device ↦ inl device
        | inr others ↦ elim others [
          | inl memory ↦ inr memory
          | inr damaged ↦ (let there = subst Unsound (same_saying un.parameters un.formatted) (un.log, un.laid, un.unsound) in absurd (there.2 damaged (sound e there.0 there.1)))
        ]
      ]

  module _ (code : ℕ) (formatted : IsFormatted shape proper said f code d p) where
    -- what the device says is in range, and the device has its sectors
    not_settled : (why : Refusal) → MaySettle code d.sectors d.seen (Err why) → HasFailed why
    not_settled refusal.OldVersion old = absurd (one_magic d.seen formatted.magic old)
    not_settled refusal.NotFormatted none = absurd (none.0 formatted.magic)
    not_settled refusal.BadParameter (magic, (q, (says, none))) = absurd (none (subst (IsAllowed code) (one_saying d.seen p q formatted.says says) formatted.allowed))
    not_settled refusal.TooSmall (magic, (q, (says, (allowed, few)))) =
        let enough : sectors_of q.pages ≤ d.sectors = subst (λ (x : Parameters). sectors_of x.pages ≤ d.sectors) (one_saying d.seen p q formatted.says says) formatted.large in
        absurd (omega (arith, few, enough))
    not_settled refusal.Device done = inl refl
    not_settled refusal.NoTransaction none = absurd none
    not_settled refusal.InTransaction none = absurd none
    not_settled refusal.Present none = absurd none
    not_settled refusal.Absent none = absurd none
    not_settled (refusal.Busy other) none = absurd none
    not_settled refusal.BadBox none = absurd none
    not_settled refusal.PagesFull none = absurd none
    not_settled refusal.ClaimsFull none = absurd none
    not_settled refusal.PredicatesFull none = absurd none
    not_settled refusal.Memory none = absurd none
    not_settled refusal.Failed none = absurd none
    not_settled refusal.Damaged none = absurd none
    not_settled refusal.BadSession none = absurd none
    not_settled refusal.CallOpen none = absurd none
    not_settled refusal.NoCall none = absurd none
    not_settled refusal.HistoryFull none = absurd none

    abbrev Refused : (same : Type 0) → Device → Refusal → Type 0
    Refused same e why =
        MaySettle code d.sectors d.seen (Err why)
        ⊎ (IsUnlaid shape proper said f code d why ⊎ (IsUnsound shape proper said f code d e why ⊎ (IsStopped shape proper said f state code d why ⊎ ((why ≡ refusal.Memory) × same))))

    -- So an opening is refused only as a failed call or as refused memory.
    pub only_fails : (same : Type 0) (e : Device) (why : Refusal) → Refused same e why → HasFailed why
    only_fails same e why refused = elim refused [
      | inl settled ↦ not_settled why settled
      | inr others ↦ elim others [
        | inl unlaid ↦ not_unlaid code formatted why unlaid
        | inr more ↦ elim more [
          | inl unsound ↦ not_unsound code formatted why e unsound
          | inr last ↦ elim last [
            | inl stopped ↦ stopped.cause
            | inr room ↦ inr room.0
          ]
        ]
      ]
    ]

-- so of whatever an opening comes to
pub if_err : {T E : Type 0} (P Q : E → Type 0) → ((e : E) → P e → Q e) → (result : Result T E) → IfErr result P → IfErr result Q
if_err P Q so (Ok x) is = tt
if_err P Q so (Err e) is = so e is
