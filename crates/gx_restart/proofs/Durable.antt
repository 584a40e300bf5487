-- Where nothing is in flight and nothing fills, all commits are durable.
use Rattle.std.proofs.Common.{◌≡◌, ◌∙◌, sym, ap, subst, ℕ, Bool, List, [], ◌++◌}
use Rattle.std.proofs.lemmas.List.{append-nil}
use Rattle.gx_machine.specs.declared.entry.Entry.{Entry}
use Rattle.gx_disk.specs.Device.{Device}
use Rattle.gx_page.specs.Contents.{Contents}
use Rattle.gx_node.specs.Reading.{Format}
use Rattle.gx_recovery.specs.Known.{Known}
use Rattle.gx_recovery.specs.Records.{Record}
use Rattle.gx_recovery.specs.Analysis.{number_of}
use Rattle.gx_recovery.specs.Logged.{all_records}
use Rattle.gx_index_laws.specs.Classes.{Class, Page, known_of}
use Rattle.gx_index_laws.specs.States as index
use Rattle.gx_durable.specs.Spelled.{Reading, AreRecords}
use Rattle.gx_durable.proofs.Spellings.{one_way, none_are}
use Rattle.gx_storage.proofs.Calling.{rests_none}
use Rattle.gx_engine.specs.Checkpoints.{IsQuiet}
use Rattle.gx_engine.specs.Holds.{Holds}
use Rattle.gx_engine.specs.States.{Parts}

module _ {B D : Type 0} (c : Class B) (r : Reading (Entry B) (Page B)) (f : Format B) (passes : ℕ → Contents → Bool)
    (d : Device) (e : Parts B D) (bodies : List (List (Record (Entry B) (Page B)))) (i : index.State B) (h : Holds c r f passes d e bodies i) (quiet : IsQuiet e.volume) where
  abbrev kn : Known (Entry B) (Page B)
  kn = known_of c

  no_flight : i.log.flight ≡ []
  no_flight = rests_none kn r e.volume.log d bodies i.log h.keeps.runs.up quiet.idle

  no_filling : i.log.filling ≡ []
  no_filling =
      let A : List ℕ → Type 0 = λ bytes. AreRecords r bytes i.log.filling in
      one_way r [] i.log.filling [] (subst A quiet.quiet h.keeps.runs.up.carries.told.filling) (none_are r)

  all_gated : all_records i.log ≡ i.log.gated
  all_gated =
      ap (λ (x : List (Record (Entry B) (Page B))). i.log.gated ++ (x ++ i.log.filling)) no_flight
      ∙ ap (λ (x : List (Record (Entry B) (Page B))). i.log.gated ++ x) no_filling ∙ append-nil i.log.gated

  pub all_durable : e.sessions.durable ≡ e.sessions.latest
  all_durable = sym h.sessions.oldest ∙ h.whole.sets.first ∙ sym (ap (number_of kn) all_gated) ∙ sym h.latest
