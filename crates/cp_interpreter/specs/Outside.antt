-- What is known of the outside of a call at one moment: of its input, its files, its clock and its output.
use Rattle.std.specs.Prelude.{ℕ, List}
use Rattle.std.specs.declared.option.Option.{Option}
use Rattle.cp_outside.specs.declared.files.Files as files
use Rattle.cp_workspace.specs.Files.{KnownFiles, known_files}
use Rattle.cp_outside.specs.declared.clock.Clock as clock
pub use Rattle.cp_workspace.specs.Clocks.{KnownClock, known_clock}
use Rattle.cp_outside.specs.declared.source.Source as source
use Rattle.cp_outside.specs.declared.sink.Sink as sink
use Rattle.cp_disk.specs.Views.{KnownDisk}

-- an input: the bytes that are left, where they are known; how many bytes it gave; how often it failed
pub record KnownInput : Type 0 where
  pub left : Option (List ℕ)
  pub given : ℕ
  pub faults : ℕ

-- an output: the bytes that it took, where they are known; how often it failed; how often it refused a write, and how many bytes it took since
pub record KnownOutput : Type 0 where
  pub contents : Option (List ℕ)
  pub faults : ℕ
  pub refusals : ℕ
  pub since_refusal : ℕ

-- what statements reach beside the disk: files, the clock and the output
pub record World : Type 0 where
  pub files : KnownFiles
  pub clock : KnownClock
  pub output : KnownOutput

-- all that a call reaches beside the disk
pub record Outside : Type 0 where
  pub input : KnownInput
  pub files : KnownFiles
  pub clock : KnownClock
  pub output : KnownOutput

-- a call at one moment: all that it reaches, and its disk
pub record Moment : Type 1 where
  pub outside : Outside
  pub disk : KnownDisk

-- of its parts
abbrev pub call_at : KnownDisk → Outside → Moment
call_at v o = record { outside = o; disk = v }

-- ---- of the objects that a call is given

abbrev pub known_input : {I : Type 0} → source.Ghosts I → I → KnownInput
known_input g i = record { left = g.left i; given = g.given i; faults = g.faults i }

abbrev pub known_output : {O : Type 0} → sink.Ghosts O → O → KnownOutput
known_output g o =
    record {
      contents = g.contents o;
      faults = g.faults o;
      refusals = g.refusals o;
      since_refusal = g.since_refusal o;
    }

abbrev pub known_world : {F K O : Type 0} → files.Ghosts F → clock.Ghosts K → sink.Ghosts O
    → F → K → O → World
known_world g l h f k o =
    record { files = known_files g f; clock = known_clock l k; output = known_output h o }

abbrev pub known_outside : {F K I O : Type 0} → files.Ghosts F → clock.Ghosts K → source.Ghosts I
    → sink.Ghosts O → F → K → I → O → Outside
known_outside g l h j f k i o =
    record {
      input = known_input h i;
      files = known_files g f;
      clock = known_clock l k;
      output = known_output j o;
    }

-- all but the input
abbrev pub world_of : Outside → World
world_of o = record { files = o.files; clock = o.clock; output = o.output }
