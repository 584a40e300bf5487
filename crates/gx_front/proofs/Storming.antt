-- A storm that the arguments ask for is small, and its outcome is how the program ends.
use Rattle.std.proofs.Common.{arith, ◌≡◌, ◌*◌, ◌<◌, ◌≤◌, ◌^◌, ℕ, List, Option, None, Some, Result, [], ◌∷◌, Ok, Err, ap, inl, inr, refl, subst}
use Rattle.std.specs.Prelude.{MatchResult}
use Rattle.std.proofs.Math.Nat.{mul-le-mul_left}
use Rattle.clap.specs.Words.{Row, Text, subcommand_of}
use Rattle.gx_geom.specs.Rectangles.{Rectangle}
use Rattle.gx_geom.specs.Solids.{Solid}
use Rattle.gx_geom.specs.declared.refusal.Refusal.{Refusal}
use Rattle.gx_geom.specs.declared.refusal.Refusal.TheVariants as refusal
use Rattle.gx_commands.specs.Refusing.{Refuses}
use Rattle.gx_machine.specs.Keys.{Members, keys_of}
use Rattle.gx_class.specs.declared.class.KeyClass.{Ghosts}
use Rattle.gx_disk.specs.Device.{Device}
use Rattle.gx_format.specs.Calls.{Call, Write, Sync, HasFailed}
use Rattle.gx_format.specs.Formatting.{AreInRange, Formats, formatting, sectors_of}
use Rattle.gx_glog.specs.declared.parameters.Parameters.{Parameters}
use Rattle.gx_page.specs.Contents.{Contents}
use Rattle.gx_engine_events.specs.New.{IsFrames, WhyNone}
use Rattle.gx_disk.specs.declared.file.FileDisk.{FileDisk}
use Rattle.gx_commands.specs.Streams.{Outputs}
use Rattle.gx_words.specs.Asking.{IsAsked}
use Rattle.gx_words.specs.Program.{gist_app}
use Rattle.gx_words.specs.declared.asking.AskedCommand.TheVariants as command
use Rattle.gx_words.specs.declared.source.WordsFault.{WordsFault}
use Rattle.gx_storm.specs.declared.threads.Storm.{Storm}
use Rattle.gx_front.specs.Storms.{EndsStormed, MemoryEvents}
use Rattle.gx_front.specs.Endings.{AwaitsStorm, EndsOnWords, EndsUnread}
use Rattle.gx_front.specs.World.{World}

-- at most 8 sessions, and at most 2,000 calls of each
pub record IsSmall (storm : Storm) : Type 0 where
  pub sessions : storm.sessions ≤ 8
  pub calls : storm.calls ≤ 2000

small : (found : Option (Text × List Row)) (storm : Storm) → IsAsked found (command.Storm storm.seed storm.sessions storm.calls) → IsSmall storm
small None storm asks = absurd asks
small (Some it) storm asks = record { sessions = asks.1.sessions_are.most; calls = asks.1.calls_are.most }

-- so there are few calls
pub few_calls : (storm : Storm) → IsSmall storm → storm.sessions * storm.calls < 2 ^ 32
few_calls storm is =
    let most = mul-le-mul_left storm.sessions is.calls in
    omega (arith, most, is.sessions)

module _ {X F : Type 0} (text : X → List Text) (storm : Storm) (from between : World F) where
  -- what is awaited before any threads is small
  pub awaits_small : (words : Result X WordsFault) → MatchResult words (λ given. AwaitsStorm (text given) storm from between) (λ fault. ⊥) → IsSmall storm
  awaits_small (Ok given) awaits = small (subcommand_of (gist_app awaits.asks.classes) (text given)) storm awaits.asks.asks
  awaits_small (Err fault) none = absurd none

  module _ {C E : Type 0} (plane : Members Rectangle) (plane_class : Ghosts C Rectangle) (space : Members Solid) (space_class : Ghosts E Solid) (state : FileDisk → Device)
      (events : MemoryEvents) where
    -- what the storm leaves, which changes the outputs alone
    abbrev after : Outputs → World F
    after to = record between { outputs = to }

    -- and once it ended, so does the program
    pub stormed : (words : Result X WordsFault) (to : Outputs) (status : ℕ) → MatchResult words (λ given. AwaitsStorm (text given) storm from between) (λ fault. ⊥)
        → EndsStormed (keys_of plane) events storm between.outputs to status
        → MatchResult words (λ given. EndsOnWords plane plane_class space space_class state events (text given) from (after to) status) (λ fault. EndsUnread fault from (after to) status)
    stormed (Ok given) to status awaits ends =
        inr (inr (record {
          asked = command.Storm storm.seed storm.sessions storm.calls;
          asks = awaits.asks;
          ends = (
            record { unopened = ap (λ (w : World F). w.opener) awaits.untouched; unread = ap (λ (w : World F). w.input) awaits.untouched },
            subst (λ (w : World F). EndsStormed (keys_of plane) events storm w.outputs to status) awaits.untouched ends,
          );
        }))
    stormed (Err fault) to status none ends = absurd none

-- A run of calls of a device that never fails doesn't fail.
pub never_fails : {D : Type 0} (state : D → Device) → ((d : D) → (state d).faults ≡ 0) → (calls : List Call) (old new : D) → HasFailed state calls old new → ⊥
never_fails state none [] old new failed = failed
never_fails state none (Write first n bytes ∷ calls) old new (inl made) = let counts = made.1.0.faults in omega (arith, counts, none old, none new)
never_fails state none (Sync ∷ calls) old new (inl made) = let counts = made.0.faults in omega (arith, counts, none old, none new)
never_fails state none (call ∷ calls) old new (inr rest) = never_fails state none calls rest.0 new rest.1.1

-- So an index of parameters that are in range, on a device that is large enough, is refused for lack of memory alone.
module _ {D : Type 0} (state : D → Device) (none : (d : D) → (state d).faults ≡ 0) (parameters : Parameters) (root : Contents) (count : ℕ) (old new : D)
    (range : AreInRange parameters.pages parameters.most) (frames : IsFrames count) (large : sectors_of parameters.pages ≤ (state old).sectors) where
  lacks : (why : Refusal) → Formats state parameters root old new (Err why) → why ≡ refusal.Memory
  lacks refusal.Memory is = refl
  lacks refusal.BadParameter is = absurd (is.0 range)
  lacks refusal.TooSmall is = let small = is.1.0 in absurd (omega (arith, small, large))
  lacks refusal.Device is = absurd (never_fails state none (formatting parameters root) old new is.1.1)
  lacks other is = absurd is

  pub lacks_memory : (why : Refusal) → WhyNone state parameters root count old new why → why ≡ refusal.Memory
  lacks_memory why (inl frameless) = absurd (frameless.1 frames)
  lacks_memory why (inr (inl memory)) = memory
  lacks_memory why (inr (inr refused)) = lacks why refused

-- A refusal that can only be for lack of memory is reported as one.
pub told_as_memory : (why : Refusal) (old new : Outputs) (status : ℕ) → why ≡ refusal.Memory → Refuses why old new status → Refuses refusal.Memory old new status
told_as_memory why old new status is told = subst (λ w. Refuses w old new status) is told
