-- What the program is given, and in what state it leaves that.
use Rattle.std.specs.Prelude.{ℕ, ◌≡◌, Option, List}
use Rattle.gx_commands.specs.Streams.{Outputs, Stream, outputs_of, stream_of}
use Rattle.gx_commands.specs.declared.opener.Opener.{Opener}
use Rattle.gx_script.specs.declared.noted.Noted.{Noted}

-- what opens files, what it reads, and what it writes to
pub record World (F : Type 0) : Type 0 where
  pub opener : Opener F
  pub input : Stream
  pub outputs : Outputs

abbrev pub world_of : {F R W E : Type 0} → (R → Option (List ℕ)) → (W → Option (List ℕ)) → (E → Option (List ℕ))
    → Opener F → Noted R → Noted W → Noted E → World F
world_of left held told opener reader writer faults = record {
  opener = opener;
  input = stream_of left reader;
  outputs = outputs_of held told writer faults;
}

-- no file was opened, and nothing read
pub record IsUntouched {F : Type 0} (from to : World F) : Type 0 where
  pub unopened : to.opener ≡ from.opener
  pub unread : to.input ≡ from.input
