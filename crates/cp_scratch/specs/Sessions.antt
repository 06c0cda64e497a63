-- Sessions on a database that is made for one call, in memory.
use Rattle.std.specs.Prelude.{◌+◌, true, false, [], ◌∷◌}
use Rattle.cp_model.specs.Keyed as keyed
use Rattle.cp_model.specs.Tree.{Tree}
use Rattle.cp_model.specs.History.{start}
use Rattle.cp_model.specs.declared.row.Content.TheVariants.{Node}
use Rattle.cp_model.specs.declared.kind.Kind.{Kind}
use Rattle.cp_disk.specs.MemoryDisks.{SureState, sure_view, sure_counts}
use Rattle.cp_journal.specs.declared.limits.TheConstants.{HEADER_SIZE, FRAME_HEAD}
use Rattle.cp_frame.specs.Sizes.{start_size}
use Rattle.cp_reply.specs.Session.{Supply, Session}
use Rattle.cp_workspace.specs.Texts.{Terms}
use Rattle.cp_disk.specs.Views.{KnownDisk}
use Rattle.cp_workspace.specs.Workspaces.{opened_session}

-- a disk in memory, which never fails
abbrev pub sure_disk : SureState → KnownDisk
sure_disk s = record { known = true; view = sure_view s; counts = sure_counts s }

-- a root alone
abbrev pub empty_tree : Tree
empty_tree = keyed.from_entries (([], Node) ∷ [])

-- a session in memory on a history of its own: its commits have no curator
abbrev pub scratch_terms : Kind → Tree → Terms
scratch_terms k t =
    record {
      ends = record {
        entries = start k t ∷ [];
        at = HEADER_SIZE + FRAME_HEAD + start_size t;
      };
      curator = [];
      shared = false;
    }

abbrev pub scratch_session : Kind → Tree → Supply → Session
scratch_session k t supply = opened_session (start k t ∷ []) supply
