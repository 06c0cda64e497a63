use Rattle.std.proofs.Common.{string_bytes}
use denote.Text.{Utf8}
use denote.Shadow.{shadow}
use Rattle.cp_lang.proofs.Printing.{IsWritten}
use Rattle.cp_lang.proofs.printer.+tree.Given as goal

abbrev pub invariant-push_edges-loop-edge : goal.invariant-push_edges-loop-edge
invariant-push_edges-loop-edge l =
    record {
      text : shadow (Utf8 l.separator);
      written : IsWritten l.edge-items l.edge-index l.separator (string_bytes l.out) (string_bytes l.initial.out);
    }
