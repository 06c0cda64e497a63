-- What plain words ask for is what the parser finds, and where they ask for nothing it refuses them or finds nothing.
use Rattle.std.proofs.Common.{◌≡◌, ◌&&◌, ◌++◌, List, [], ◌∷◌, Bool, true, false, Option, Some, None, codes, refl, sym, ap, ◌∙◌, subst, not, append_assoc, append-nil, if◌then◌else◌, is_some, map, drop, length, ◌≤◌, arith}
use Rattle.std.specs.List.{fold, list_all}
use Rattle.std.specs.Str.{bytes_eq}
use Rattle.std.proofs.lemmas.Bool.{and_parts}
use Rattle.std.proofs.lemmas.List.Folds.{list_all-map}
use Rattle.clap.specs.Words.{Row, Text, subcommand_of}
use Rattle.clap.specs.Kinds.{Kinds, or_else, IsAmong}
use Rattle.clap.specs.Faults.{fault_of, turn_fault, walk_fault, entered_fault, settle_fault, defaults_fault, check_fault}
use Rattle.clap.specs.Walk.{Names, Rule, Walk, idle, walked, walk, walk_from, nothing_held, subcommand_met, settled, finished}
use Rattle.clap.specs.Simple.{Shape, built, names_of, entered, is_simple}
use Rattle.clap.specs.Faults.{is_simple_and_free}
use Rattle.clap.specs.declared.error.kind.ErrorKind.{ErrorKind}
use Rattle.clap.specs.declared.error.kind.ErrorKind.TheVariants.{MissingSubcommand, UnknownArgument, InvalidSubcommand}
use Rattle.clap.proofs.OnLiterals.{clap_on_literals}
use Rattle.clap.proofs.FaultLemmas.{stopped_fault}
use Rattle.cp_words.specs.Operands.{is_operand}
use Rattle.cp_words.specs.Commands.{scratch_of, init_of, run_of, commit_of, load_of, query_of, generate_of, log_of, verify_of, at_of, archive_of, share_of, uses_of, row_of, command_of}
use Rattle.cp_words.specs.Matches.{scratch_from, init_from, run_from, commit_from, load_from, query_from, generate_from, log_from, verify_from, at_from, archive_from, share_from, uses_from, command_from}
use Rattle.cp_words.specs.Shapes.{whole}
use Rattle.cp_words.specs.declared.command.Command.{Command}
use Rattle.cp_words.proofs.Leaf.{Plain, plain_word, ArePlain, Right, sub_at, leaf_faults, leaf_rows, missing}
use Rattle.cp_words.proofs.Fitting.{scratch_right, init_right, run_right, commit_right, load_right, query_right, generate_right, log_right, verify_right, at_right, archive_right, share_right, uses_right}

pub whole_is_simple : is_simple whole ≡ true
unfolding clap_on_literals
whole_is_simple = refl

pub whole_simple : is_simple_and_free whole ≡ true
unfolding clap_on_literals
whole_simple = refl

-- ---- the word of the command

abbrev T : Shape
T = (built whole).top

abbrev N : Names
N = names_of (built whole)

abbrev first : Walk
first = walk_from nothing_held

-- a walk that has met a subcommand keeps the words after it
stays : (c : List Rule) (names : Names) (w : Walk) (n : Text) (acc rest : List Text)
    → fold (walked c names) (record w { stopped = Some (n, acc) }) rest ≡ record w { stopped = Some (n, acc ++ rest) }
unfolding walked
stays c names w n acc [] = ap (λ xs. let v : Walk = record w { stopped = Some (n, xs) } in v) (sym (append-nil acc))
stays c names w n acc (x ∷ rest) = stays c names w n (acc ++ x ∷ []) rest ∙ ap (λ xs. let v : Walk = record w { stopped = Some (n, xs) } in v) (append_assoc acc (x ∷ []) rest)

-- the words name a subcommand
entered_walk : (c : List Rule) (names : Names) (w n : Text) → subcommand_met names idle w ≡ Some n → walked c names first w ≡ record first { stopped = Some (n, []) }
unfolding walked
entered_walk c names w n met = rw met refl

met_turn : (s : Shape) (names : Names) (w n : Text) → subcommand_met names idle w ≡ Some n → (bytes_eq n (codes "help") && not s.disable_help_subcommand) ≡ false → turn_fault s names first w ≡ []
met_turn s names w n met other = rw (met, other) refl

stopped_at : (w n : Text) (rest : List Text) → subcommand_met N idle w ≡ Some n → walk T.rules N nothing_held (w ∷ rest) ≡ record first { stopped = Some (n, rest) }
stopped_at w n rest met = ap (λ v. fold (walked T.rules N) v rest) (entered_walk T.rules N w n met) ∙ stays T.rules N first n [] rest

no_top_fault : (w n : Text) (rest : List Text) → subcommand_met N idle w ≡ Some n → (bytes_eq n (codes "help") && not T.disable_help_subcommand) ≡ false → walk_fault T N first (w ∷ rest) ≡ []
unfolding walk_fault
no_top_fault w n rest met other =
    ap (λ k. or_else k (walk_fault T N (walked T.rules N first w) rest)) (met_turn T N w n met other)
    ∙ ap (λ v. walk_fault T N v rest) (entered_walk T.rules N w n met) ∙ stopped_fault T N first (n, []) rest

abbrev pub Fits : Option Command → Text → List Text → Type 0
Fits r name ws = Right command_from r (fault_of whole (name ∷ ws)) (subcommand_of whole (name ∷ ws))

-- what a level says, by its walk
abbrev level : Kinds → Walk → Kinds
level k w =
    or_else k (or_else (entered_fault (built whole) w.stopped) (or_else (settle_fault T.rules T.args_override_self w.held)
    (or_else (defaults_fault (settled T.rules w.held).rows T.rules) (check_fault T (finished T.rules w.held) (is_some (entered (built whole) w.stopped))))))

fault_by : (name w n : Text) (rest : List Text) → subcommand_met N idle w ≡ Some n → (bytes_eq n (codes "help") && not T.disable_help_subcommand) ≡ false
    → fault_of whole (name ∷ w ∷ rest) ≡ level [] (record first { stopped = Some (n, rest) })
fault_by name w n rest met other =
    ap (λ k. level k (walk T.rules N nothing_held (w ∷ rest))) (no_top_fault w n rest met other) ∙ ap (level []) (stopped_at w n rest met)

rows_by : (name w n : Text) (rest : List Text) → subcommand_met N idle w ≡ Some n → subcommand_of whole (name ∷ w ∷ rest) ≡ entered (built whole) (Some (n, rest))
rows_by name w n rest met = ap (λ (v : Walk). entered (built whole) v.stopped) (stopped_at w n rest met)

or_nil : (ks : Kinds) → or_else ks [] ≡ ks
or_nil [] = refl
or_nil (k ∷ ks) = refl

fits_by : (r : Option Command) (read : List Row → Option Command) (s : Shape) (name w : Text) (rest : List Text) → Right read r (leaf_faults s rest) (leaf_rows s rest)
    → fault_of whole (name ∷ w ∷ rest) ≡ leaf_faults s rest → command_from (subcommand_of whole (name ∷ w ∷ rest)) ≡ read (leaf_rows s rest) → Fits r name (w ∷ rest)
fits_by r read s name w rest right same rows = record {
  reads = λ none. rows ∙ right.reads (sym same ∙ none);
  refused = λ k among. (let P : Kinds → Type 0 = λ ks. IsAmong k ks in right.refused k (subst P same among));
}

-- ---- each command

scratch_fits : (name w : Text) (rest : List Text) → ArePlain rest → subcommand_met N idle w ≡ Some (codes "scratch") → Fits (scratch_of rest) name (w ∷ rest)
unfolding clap_on_literals
scratch_fits name w rest plain met =
    fits_by (scratch_of rest) scratch_from (sub_at 0) name w rest (scratch_right rest plain)
    (fault_by name w (codes "scratch") rest met refl ∙ or_nil (leaf_faults (sub_at 0) rest)) (ap command_from (rows_by name w (codes "scratch") rest met))

init_fits : (name w : Text) (rest : List Text) → ArePlain rest → subcommand_met N idle w ≡ Some (codes "init") → Fits (init_of rest) name (w ∷ rest)
unfolding clap_on_literals
init_fits name w rest plain met =
    fits_by (init_of rest) init_from (sub_at 1) name w rest (init_right rest plain)
    (fault_by name w (codes "init") rest met refl ∙ or_nil (leaf_faults (sub_at 1) rest)) (ap command_from (rows_by name w (codes "init") rest met))

run_fits : (name w : Text) (rest : List Text) → ArePlain rest → subcommand_met N idle w ≡ Some (codes "run") → Fits (run_of rest) name (w ∷ rest)
unfolding clap_on_literals
run_fits name w rest plain met =
    fits_by (run_of rest) run_from (sub_at 2) name w rest (run_right rest plain)
    (fault_by name w (codes "run") rest met refl ∙ or_nil (leaf_faults (sub_at 2) rest)) (ap command_from (rows_by name w (codes "run") rest met))

commit_fits : (name w : Text) (rest : List Text) → ArePlain rest → subcommand_met N idle w ≡ Some (codes "commit") → Fits (commit_of rest) name (w ∷ rest)
unfolding clap_on_literals
commit_fits name w rest plain met =
    fits_by (commit_of rest) commit_from (sub_at 3) name w rest (commit_right rest plain)
    (fault_by name w (codes "commit") rest met refl ∙ or_nil (leaf_faults (sub_at 3) rest)) (ap command_from (rows_by name w (codes "commit") rest met))

load_fits : (name w : Text) (rest : List Text) → ArePlain rest → subcommand_met N idle w ≡ Some (codes "load") → Fits (load_of rest) name (w ∷ rest)
unfolding clap_on_literals
load_fits name w rest plain met =
    fits_by (load_of rest) load_from (sub_at 4) name w rest (load_right rest plain)
    (fault_by name w (codes "load") rest met refl ∙ or_nil (leaf_faults (sub_at 4) rest)) (ap command_from (rows_by name w (codes "load") rest met))

query_fits : (name w : Text) (rest : List Text) → ArePlain rest → subcommand_met N idle w ≡ Some (codes "query") → Fits (query_of rest) name (w ∷ rest)
unfolding clap_on_literals
query_fits name w rest plain met =
    fits_by (query_of rest) query_from (sub_at 5) name w rest (query_right rest plain)
    (fault_by name w (codes "query") rest met refl ∙ or_nil (leaf_faults (sub_at 5) rest)) (ap command_from (rows_by name w (codes "query") rest met))

generate_fits : (name w : Text) (rest : List Text) → ArePlain rest → subcommand_met N idle w ≡ Some (codes "gen") → Fits (generate_of rest) name (w ∷ rest)
unfolding clap_on_literals
generate_fits name w rest plain met =
    fits_by (generate_of rest) generate_from (sub_at 6) name w rest (generate_right rest plain)
    (fault_by name w (codes "gen") rest met refl ∙ or_nil (leaf_faults (sub_at 6) rest)) (ap command_from (rows_by name w (codes "gen") rest met))

log_fits : (name w : Text) (rest : List Text) → ArePlain rest → subcommand_met N idle w ≡ Some (codes "log") → Fits (log_of rest) name (w ∷ rest)
unfolding clap_on_literals
log_fits name w rest plain met =
    fits_by (log_of rest) log_from (sub_at 7) name w rest (log_right rest plain)
    (fault_by name w (codes "log") rest met refl ∙ or_nil (leaf_faults (sub_at 7) rest)) (ap command_from (rows_by name w (codes "log") rest met))

verify_fits : (name w : Text) (rest : List Text) → ArePlain rest → subcommand_met N idle w ≡ Some (codes "verify") → Fits (verify_of rest) name (w ∷ rest)
unfolding clap_on_literals
verify_fits name w rest plain met =
    fits_by (verify_of rest) verify_from (sub_at 8) name w rest (verify_right rest plain)
    (fault_by name w (codes "verify") rest met refl ∙ or_nil (leaf_faults (sub_at 8) rest)) (ap command_from (rows_by name w (codes "verify") rest met))

at_fits : (name w : Text) (rest : List Text) → ArePlain rest → subcommand_met N idle w ≡ Some (codes "at") → Fits (at_of rest) name (w ∷ rest)
unfolding clap_on_literals
at_fits name w rest plain met =
    fits_by (at_of rest) at_from (sub_at 9) name w rest (at_right rest plain)
    (fault_by name w (codes "at") rest met refl ∙ or_nil (leaf_faults (sub_at 9) rest)) (ap command_from (rows_by name w (codes "at") rest met))

archive_fits : (name w : Text) (rest : List Text) → ArePlain rest → subcommand_met N idle w ≡ Some (codes "archive") → Fits (archive_of rest) name (w ∷ rest)
unfolding clap_on_literals
archive_fits name w rest plain met =
    fits_by (archive_of rest) archive_from (sub_at 10) name w rest (archive_right rest plain)
    (fault_by name w (codes "archive") rest met refl ∙ or_nil (leaf_faults (sub_at 10) rest)) (ap command_from (rows_by name w (codes "archive") rest met))

share_fits : (name w : Text) (rest : List Text) → ArePlain rest → subcommand_met N idle w ≡ Some (codes "share") → Fits (share_of rest) name (w ∷ rest)
unfolding clap_on_literals
share_fits name w rest plain met =
    fits_by (share_of rest) share_from (sub_at 11) name w rest (share_right rest plain)
    (fault_by name w (codes "share") rest met refl ∙ or_nil (leaf_faults (sub_at 11) rest)) (ap command_from (rows_by name w (codes "share") rest met))

uses_fits : (name w : Text) (rest : List Text) → ArePlain rest → subcommand_met N idle w ≡ Some (codes "uses") → Fits (uses_of rest) name (w ∷ rest)
unfolding clap_on_literals
uses_fits name w rest plain met =
    fits_by (uses_of rest) uses_from (sub_at 12) name w rest (uses_right rest plain)
    (fault_by name w (codes "uses") rest met refl ∙ or_nil (leaf_faults (sub_at 12) rest)) (ap command_from (rows_by name w (codes "uses") rest met))

-- ---- no command

no_subcommand : (name : Text) → fault_of whole (name ∷ []) ≡ MissingSubcommand ∷ []
unfolding clap_on_literals
no_subcommand name = refl

stray_turn : (w : Text) → Plain w → subcommand_met N idle w ≡ None → turn_fault T N first w ≡ UnknownArgument ∷ InvalidSubcommand ∷ []
unfolding clap_on_literals
stray_turn w p none = rw (none, p.ends, p.long, p.short) refl

stray_word : (name w : Text) (rest : List Text) → Plain w → subcommand_met N idle w ≡ None → Fits None name (w ∷ rest)
unfolding walk_fault
stray_word name w rest p none =
    missing command_from UnknownArgument (InvalidSubcommand ∷ []) (fault_of whole (name ∷ w ∷ rest)) (subcommand_of whole (name ∷ w ∷ rest))
    (ap (λ k. level (or_else k (walk_fault T N (walked T.rules N first w) rest)) (walk T.rules N nothing_held (w ∷ rest))) (stray_turn w p none))

-- ---- which command a word names

are_plain : (ws : List Text) → list_all is_operand ws ≡ true → ArePlain ws
are_plain [] h = tt
are_plain (w ∷ ws) h = let p = and_parts (is_operand w) (list_all is_operand ws) h in (plain_word w p.0, are_plain ws p.1)

met_by : (w : Text) (a b c d e f g i j k l m n : Bool) → bytes_eq (codes "scratch") w ≡ a → bytes_eq (codes "init") w ≡ b → bytes_eq (codes "run") w ≡ c → bytes_eq (codes "commit") w ≡ d → bytes_eq (codes "load") w ≡ e → bytes_eq (codes "query") w ≡ f → bytes_eq (codes "gen") w ≡ g → bytes_eq (codes "log") w ≡ i → bytes_eq (codes "verify") w ≡ j → bytes_eq (codes "at") w ≡ k → bytes_eq (codes "archive") w ≡ l → bytes_eq (codes "share") w ≡ m → bytes_eq (codes "uses") w ≡ n
    → subcommand_met N idle w ≡ (if a then Some (codes "scratch") else if b then Some (codes "init") else if c then Some (codes "run") else if d then Some (codes "commit") else if e then Some (codes "load") else if f then Some (codes "query") else if g then Some (codes "gen") else if i then Some (codes "log") else if j then Some (codes "verify") else if k then Some (codes "at") else if l then Some (codes "archive") else if m then Some (codes "share") else if n then Some (codes "uses") else None)
unfolding clap_on_literals
met_by w true b c d e f g i j k l m n p1 p2 p3 p4 p5 p6 p7 p8 p9 p10 p11 p12 p13 = rw p1 refl
met_by w false true c d e f g i j k l m n p1 p2 p3 p4 p5 p6 p7 p8 p9 p10 p11 p12 p13 = rw (p1, p2) refl
met_by w false false true d e f g i j k l m n p1 p2 p3 p4 p5 p6 p7 p8 p9 p10 p11 p12 p13 = rw (p1, p2, p3) refl
met_by w false false false true e f g i j k l m n p1 p2 p3 p4 p5 p6 p7 p8 p9 p10 p11 p12 p13 = rw (p1, p2, p3, p4) refl
met_by w false false false false true f g i j k l m n p1 p2 p3 p4 p5 p6 p7 p8 p9 p10 p11 p12 p13 = rw (p1, p2, p3, p4, p5) refl
met_by w false false false false false true g i j k l m n p1 p2 p3 p4 p5 p6 p7 p8 p9 p10 p11 p12 p13 = rw (p1, p2, p3, p4, p5, p6) refl
met_by w false false false false false false true i j k l m n p1 p2 p3 p4 p5 p6 p7 p8 p9 p10 p11 p12 p13 = rw (p1, p2, p3, p4, p5, p6, p7) refl
met_by w false false false false false false false true j k l m n p1 p2 p3 p4 p5 p6 p7 p8 p9 p10 p11 p12 p13 = rw (p1, p2, p3, p4, p5, p6, p7, p8) refl
met_by w false false false false false false false false true k l m n p1 p2 p3 p4 p5 p6 p7 p8 p9 p10 p11 p12 p13 = rw (p1, p2, p3, p4, p5, p6, p7, p8, p9) refl
met_by w false false false false false false false false false true l m n p1 p2 p3 p4 p5 p6 p7 p8 p9 p10 p11 p12 p13 = rw (p1, p2, p3, p4, p5, p6, p7, p8, p9, p10) refl
met_by w false false false false false false false false false false true m n p1 p2 p3 p4 p5 p6 p7 p8 p9 p10 p11 p12 p13 = rw (p1, p2, p3, p4, p5, p6, p7, p8, p9, p10, p11) refl
met_by w false false false false false false false false false false false true n p1 p2 p3 p4 p5 p6 p7 p8 p9 p10 p11 p12 p13 = rw (p1, p2, p3, p4, p5, p6, p7, p8, p9, p10, p11, p12) refl
met_by w false false false false false false false false false false false false true p1 p2 p3 p4 p5 p6 p7 p8 p9 p10 p11 p12 p13 = rw (p1, p2, p3, p4, p5, p6, p7, p8, p9, p10, p11, p12, p13) refl
met_by w false false false false false false false false false false false false false p1 p2 p3 p4 p5 p6 p7 p8 p9 p10 p11 p12 p13 = rw (p1, p2, p3, p4, p5, p6, p7, p8, p9, p10, p11, p12, p13) refl

fits_row : (name w : Text) (rest : List Text) → Plain w → ArePlain rest → (a b c d e f g i j k l m n : Bool) → bytes_eq (codes "scratch") w ≡ a → bytes_eq (codes "init") w ≡ b → bytes_eq (codes "run") w ≡ c → bytes_eq (codes "commit") w ≡ d → bytes_eq (codes "load") w ≡ e → bytes_eq (codes "query") w ≡ f → bytes_eq (codes "gen") w ≡ g → bytes_eq (codes "log") w ≡ i → bytes_eq (codes "verify") w ≡ j → bytes_eq (codes "at") w ≡ k → bytes_eq (codes "archive") w ≡ l → bytes_eq (codes "share") w ≡ m → bytes_eq (codes "uses") w ≡ n
    → Fits (if a then scratch_of rest else if b then init_of rest else if c then run_of rest else if d then commit_of rest else if e then load_of rest else if f then query_of rest else if g then generate_of rest else if i then log_of rest else if j then verify_of rest else if k then at_of rest else if l then archive_of rest else if m then share_of rest else if n then uses_of rest else None) name (w ∷ rest)
fits_row name w rest p ps true b c d e f g i j k l m n p1 p2 p3 p4 p5 p6 p7 p8 p9 p10 p11 p12 p13 = scratch_fits name w rest ps (met_by w true b c d e f g i j k l m n p1 p2 p3 p4 p5 p6 p7 p8 p9 p10 p11 p12 p13)
fits_row name w rest p ps false true c d e f g i j k l m n p1 p2 p3 p4 p5 p6 p7 p8 p9 p10 p11 p12 p13 = init_fits name w rest ps (met_by w false true c d e f g i j k l m n p1 p2 p3 p4 p5 p6 p7 p8 p9 p10 p11 p12 p13)
fits_row name w rest p ps false false true d e f g i j k l m n p1 p2 p3 p4 p5 p6 p7 p8 p9 p10 p11 p12 p13 = run_fits name w rest ps (met_by w false false true d e f g i j k l m n p1 p2 p3 p4 p5 p6 p7 p8 p9 p10 p11 p12 p13)
fits_row name w rest p ps false false false true e f g i j k l m n p1 p2 p3 p4 p5 p6 p7 p8 p9 p10 p11 p12 p13 = commit_fits name w rest ps (met_by w false false false true e f g i j k l m n p1 p2 p3 p4 p5 p6 p7 p8 p9 p10 p11 p12 p13)
fits_row name w rest p ps false false false false true f g i j k l m n p1 p2 p3 p4 p5 p6 p7 p8 p9 p10 p11 p12 p13 = load_fits name w rest ps (met_by w false false false false true f g i j k l m n p1 p2 p3 p4 p5 p6 p7 p8 p9 p10 p11 p12 p13)
fits_row name w rest p ps false false false false false true g i j k l m n p1 p2 p3 p4 p5 p6 p7 p8 p9 p10 p11 p12 p13 = query_fits name w rest ps (met_by w false false false false false true g i j k l m n p1 p2 p3 p4 p5 p6 p7 p8 p9 p10 p11 p12 p13)
fits_row name w rest p ps false false false false false false true i j k l m n p1 p2 p3 p4 p5 p6 p7 p8 p9 p10 p11 p12 p13 = generate_fits name w rest ps (met_by w false false false false false false true i j k l m n p1 p2 p3 p4 p5 p6 p7 p8 p9 p10 p11 p12 p13)
fits_row name w rest p ps false false false false false false false true j k l m n p1 p2 p3 p4 p5 p6 p7 p8 p9 p10 p11 p12 p13 = log_fits name w rest ps (met_by w false false false false false false false true j k l m n p1 p2 p3 p4 p5 p6 p7 p8 p9 p10 p11 p12 p13)
fits_row name w rest p ps false false false false false false false false true k l m n p1 p2 p3 p4 p5 p6 p7 p8 p9 p10 p11 p12 p13 = verify_fits name w rest ps (met_by w false false false false false false false false true k l m n p1 p2 p3 p4 p5 p6 p7 p8 p9 p10 p11 p12 p13)
fits_row name w rest p ps false false false false false false false false false true l m n p1 p2 p3 p4 p5 p6 p7 p8 p9 p10 p11 p12 p13 = at_fits name w rest ps (met_by w false false false false false false false false false true l m n p1 p2 p3 p4 p5 p6 p7 p8 p9 p10 p11 p12 p13)
fits_row name w rest p ps false false false false false false false false false false true m n p1 p2 p3 p4 p5 p6 p7 p8 p9 p10 p11 p12 p13 = archive_fits name w rest ps (met_by w false false false false false false false false false false true m n p1 p2 p3 p4 p5 p6 p7 p8 p9 p10 p11 p12 p13)
fits_row name w rest p ps false false false false false false false false false false false true n p1 p2 p3 p4 p5 p6 p7 p8 p9 p10 p11 p12 p13 = share_fits name w rest ps (met_by w false false false false false false false false false false false true n p1 p2 p3 p4 p5 p6 p7 p8 p9 p10 p11 p12 p13)
fits_row name w rest p ps false false false false false false false false false false false false true p1 p2 p3 p4 p5 p6 p7 p8 p9 p10 p11 p12 p13 = uses_fits name w rest ps (met_by w false false false false false false false false false false false false true p1 p2 p3 p4 p5 p6 p7 p8 p9 p10 p11 p12 p13)
fits_row name w rest p ps false false false false false false false false false false false false false p1 p2 p3 p4 p5 p6 p7 p8 p9 p10 p11 p12 p13 = stray_word name w rest p (met_by w false false false false false false false false false false false false false p1 p2 p3 p4 p5 p6 p7 p8 p9 p10 p11 p12 p13)

pub fits : (name : Text) (ws : List Text) → list_all is_operand ws ≡ true → Fits (row_of ws) name ws
fits name [] h = missing command_from MissingSubcommand [] (fault_of whole (name ∷ [])) (subcommand_of whole (name ∷ [])) (no_subcommand name)
fits name (w ∷ rest) h =
    let p = are_plain (w ∷ rest) h in
    fits_row name w rest p.0 p.1 (bytes_eq (codes "scratch") w) (bytes_eq (codes "init") w) (bytes_eq (codes "run") w) (bytes_eq (codes "commit") w) (bytes_eq (codes "load") w) (bytes_eq (codes "query") w) (bytes_eq (codes "gen") w) (bytes_eq (codes "log") w) (bytes_eq (codes "verify") w) (bytes_eq (codes "at") w) (bytes_eq (codes "archive") w) (bytes_eq (codes "share") w) (bytes_eq (codes "uses") w)
    refl refl refl refl refl refl refl refl refl refl refl refl refl

-- ---- the words of a call

pub read_ok : (all : List Text) → 1 ≤ length all → list_all is_operand (drop 1 all) ≡ true → fault_of whole all ≡ [] → command_from (subcommand_of whole all) ≡ command_of all
read_ok [] some plain fine = absurd (omega arith)
read_ok (program ∷ ws) some plain fine = rw plain ((fits program ws plain).reads fine)

pub read_err : (all : List Text) (k : ErrorKind) → 1 ≤ length all → list_all is_operand (drop 1 all) ≡ true → IsAmong k (fault_of whole all) → None ≡ command_of all
read_err [] k some plain among = refl
read_err (program ∷ ws) k some plain among = rw plain ((fits program ws plain).refused k among)

pub read_none : (all : List Text) → list_all is_operand (drop 1 all) ≡ false → None ≡ command_of all
read_none [] h = refl
read_none (program ∷ ws) h = rw h refl

-- the code's test, over the words themselves
pub plain_words : {X : Type 0} (f : X → Text) (ws : List X) → list_all is_operand (drop 1 (map f ws)) ≡ list_all (λ w. is_operand (f w)) (drop 1 ws)
plain_words f [] = refl
plain_words f (w ∷ ws) = list_all-map is_operand f ws

pub some_words : {X : Type 0} (f : X → Text) (ws : List X) → 1 ≤ length ws → 1 ≤ length (map f ws)
some_words f [] h = h
some_words f (w ∷ ws) h = omega arith

-- no words ask for nothing
pub no_words_ask : {X : Type 0} (f : X → Text) (ws : List X) → length ws ≡ 0 → None ≡ command_of (map f ws)
no_words_ask f [] h = refl
no_words_ask f (w ∷ ws) h = absurd (omega arith)
