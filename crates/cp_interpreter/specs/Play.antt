-- A session between two bytes of its input, and what the next bytes bring.
use Rattle.std.specs.Prelude.{ℕ, List, ◌++◌}
use Rattle.cp_lang.specs.Cuts.{Scan, scan_start, scan_bytes, rest_of}
use Rattle.cp_reply.specs.Session.{Session, session_after}
use Rattle.cp_workspace.specs.Texts.{Terms, setting}
use Rattle.cp_interpreter.specs.Job.{Report, report_of}

-- the bytes since the last statement's end, what the session is run on, and its state
pub record Seen : Type 0 where
  pub scan : Scan
  pub terms : Terms
  pub session : Session

-- before the first byte
abbrev pub begun : Terms → Session → Seen
begun terms s = record { scan = scan_start; terms = terms; session = s }

-- what the cuts that end in the next bytes do
unfoldable pub plays : Seen → List ℕ → Report
plays s bytes = report_of s.terms s.session (scan_bytes s.scan bytes).cuts

-- what is seen then
unfoldable pub after_play : Seen → List ℕ → Seen
after_play s bytes = record {
  scan = (scan_bytes s.scan bytes).scan;
  terms = s.terms;
  session = session_after (setting s.terms) s.session (scan_bytes s.scan bytes).cuts;
}

-- what is played of a session: what it reports, and what is seen then
pub record Played : Type 0 where
  pub report : Report
  pub next : Seen

-- of its parts
abbrev pub played_as : Report → Seen → Played
played_as r next = record { report = r; next = next }

-- what the next bytes play
abbrev pub bytes_played : Seen → List ℕ → Played
bytes_played s bytes = played_as (plays s bytes) (after_play s bytes)

-- what the cut at the end of the input does
unfoldable pub closes : Seen → Report
closes s = report_of s.terms s.session (rest_of s.scan)

-- what all the rest of an input does
unfoldable pub plays_all : Seen → List ℕ → Report
plays_all s bytes =
    report_of s.terms s.session
    ((scan_bytes s.scan bytes).cuts ++ rest_of (scan_bytes s.scan bytes).scan)
