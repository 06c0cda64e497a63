-- What one statement replies, and calls that say one line.
use Rattle.std.proofs.Common.{◌≡◌, ℕ, List, [], Bool, refl, sym, ap, subst, append-nil, arith}
use Rattle.std.specs.List.{flat_map, list_any}
use Rattle.std.specs.declared.option.Option.{Option}
use Rattle.std.specs.declared.option.Option.TheVariants.{None, Some}
use Rattle.std.specs.Option.{option_map}
use Rattle.cp_outside.specs.Causes.{Accounts}
use Rattle.cp_lang.specs.declared.syntax_tree.Stmt.{Stmt}
use Rattle.cp_reply.specs.Lines.{lines}
use Rattle.cp_reply.specs.declared.reply.Reply.{Reply}
use Rattle.cp_reply.specs.declared.said.Said.{Said}
use Rattle.cp_reply.specs.Session.{Session, says, turn_of, said_to, said_in, with_reply, replies_to_statements}
use Rattle.cp_workspace.specs.Texts.{Terms, setting}
use Rattle.cp_workspace.specs.Workspaces.{of_nobody}
use Rattle.cp_disk.specs.Views.{KnownDisk}
use Rattle.cp_workspace.specs.Files.{KnownFiles}
use Rattle.cp_interpreter.specs.Job.{is_refusal}
use Rattle.cp_interpreter.specs.Outside.{KnownInput, KnownClock, KnownOutput}
use Rattle.cp_interpreter.specs.Story.{SaidLine, HasCauses, DiskCauses, result_of}
use Rattle.cp_interpreter.specs.Alone.{statement_report}
use Rattle.cp_interpreter.specs.declared.end.End.{End}
use Rattle.cp_interpreter.specs.declared.end.End.TheVariants as how
use Rattle.cp_interpreter.proofs.Plays.{or-false}

-- ---- one statement

-- the lines of one reply
one-reply : (o : Option Reply) (y : Reply) → Some y ≡ o → (lines y ≡ flat_map lines (with_reply o [])) × (is_refusal y ≡ list_any is_refusal (with_reply o []))
one-reply o y is = subst (λ z. (lines y ≡ flat_map lines (with_reply z [])) × (is_refusal y ≡ list_any is_refusal (with_reply z []))) is (sym (append-nil (lines y)), or-false (is_refusal y))

-- the reply of what was said
reply-said : (whose : Option (List ℕ)) (o : Option Reply) (y : Reply) → of_nobody y ≡ option_map (said_to whose) o → Some y ≡ o
reply-said whose None y is = absurd (cc)
reply-said whose (Some r) y is = let same : said_to None y ≡ said_to whose r = cc in ap (λ (x : Said). Some x.reply) same

-- the report of a statement that got this reply
pub statement-said : (terms : Terms) (s : Session) (x : Stmt) (y : Reply) → of_nobody y ≡ said_in (turn_of (setting terms) s (says x))
    → (lines y ≡ (statement_report terms s x).out) × (is_refusal y ≡ (statement_report terms s x).refused)
unfolding replies_to_statements
statement-said terms s x y is = let t = turn_of (setting terms) s (says x) in one-reply t.reply y (reply-said t.whose t.reply y is)

-- ---- ends of calls that say one line

-- how such a call ends
said-is : (P : End → Type 0) (line : List ℕ) (flag : Bool) (o p : KnownOutput) (e : End) → SaidLine line flag o p e → P how.Done → P how.Refused → P how.Output → P how.Memory → P e
said-is P line flag o p how.Done s d r u m = d
said-is P line flag o p how.Refused s d r u m = r
said-is P line flag o p how.Usage s d r u m = absurd s
said-is P line flag o p how.Input s d r u m = absurd s
said-is P line flag o p how.File s d r u m = absurd s
said-is P line flag o p how.Output s d r u m = u
said-is P line flag o p how.Disk s d r u m = absurd s
said-is P line flag o p (how.NoStore at) s d r u m = absurd s
said-is P line flag o p how.Memory s d r u m = m
said-is P line flag o p how.TooLong s d r u m = absurd s
said-is P line flag o p how.Clock s d r u m = absurd s

-- such an end is none of these
pub said-short : (line : List ℕ) (flag : Bool) (o p : KnownOutput) (e : End) → SaidLine line flag o p e → e ≡ how.TooLong → ⊥
said-short line flag o p e s = said-is (λ z. z ≡ how.TooLong → ⊥) line flag o p e s (λ h. absurd (cc)) (λ h. absurd (cc)) (λ h. absurd (cc)) (λ h. absurd (cc))

pub said-fitting : (line : List ℕ) (flag : Bool) (o p : KnownOutput) (e : End) → SaidLine line flag o p e → e ≡ how.Usage → ⊥
said-fitting line flag o p e s = said-is (λ z. z ≡ how.Usage → ⊥) line flag o p e s (λ h. absurd (cc)) (λ h. absurd (cc)) (λ h. absurd (cc)) (λ h. absurd (cc))

pub said-opened : (line : List ℕ) (flag : Bool) (o p : KnownOutput) (e : End) (at : ℕ) → SaidLine line flag o p e → e ≡ how.NoStore at → ⊥
said-opened line flag o p e at s = said-is (λ z. z ≡ how.NoStore at → ⊥) line flag o p e s (λ h. absurd (cc)) (λ h. absurd (cc)) (λ h. absurd (cc)) (λ h. absurd (cc))

pub said-not-disk : (line : List ℕ) (flag : Bool) (o p : KnownOutput) (e : End) → SaidLine line flag o p e → e ≡ how.Disk → ⊥
said-not-disk line flag o p e s = said-is (λ z. z ≡ how.Disk → ⊥) line flag o p e s (λ h. absurd (cc)) (λ h. absurd (cc)) (λ h. absurd (cc)) (λ h. absurd (cc))

-- it blames nothing but the output
pub said-quiet : (d : End) (n m : ℕ) (line : List ℕ) (flag : Bool) (o p : KnownOutput) (e : End) → SaidLine line flag o p e → m ≡ n → (how.Output ≡ d → ⊥) → (how.Memory ≡ d → ⊥) → Accounts (λ z. z ≡ d) n m (result_of e)
said-quiet d n m line flag o p e s same nu nm = said-is (λ z. Accounts (λ y. y ≡ d) n m (result_of z)) line flag o p e s
    (record { later = omega (arith, same); blamed = tt; steady = same })
    (record { later = omega (arith, same); blamed = tt; steady = same })
    (record { later = omega (arith, same); blamed = λ h. absurd (nu h); steady = tt })
    (record { later = omega (arith, same); blamed = λ h. absurd (nm h); steady = tt })

-- the causes of such an end
pub causes-said : (i : KnownInput) (f g : KnownFiles) (k : KnownClock) (o p : KnownOutput) (line : List ℕ) (flag : Bool) (e : End) → g.found ≡ f.found → g.faults ≡ f.faults → SaidLine line flag o p e
    → Accounts (λ z. z ≡ how.Output) o.faults p.faults (result_of e)
    → HasCauses (record { input = i; files = f; clock = k; output = o }) (record { input = i; files = g; clock = k; output = p }) e
causes-said i f g k o p line flag e found same s cause = record {
  input = said-quiet how.Input i.faults i.faults line flag o p e s refl (λ h. absurd (cc)) (λ h. absurd (cc));
  world = record {
    same = found;
    files = said-quiet how.File f.faults g.faults line flag o p e s same (λ h. absurd (cc)) (λ h. absurd (cc));
    clock = said-quiet how.Clock k.faults k.faults line flag o p e s refl (λ h. absurd (cc)) (λ h. absurd (cc));
    output = cause;
  };
}

-- and the disk's account
pub disk-said : (v w : KnownDisk) (line : List ℕ) (flag : Bool) (o p : KnownOutput) (e : End) → w.known ≡ v.known → w.counts.faults ≡ v.counts.faults → SaidLine line flag o p e → DiskCauses v w e
disk-said v w line flag o p e known same s = record { same = known; account = said-quiet how.Disk v.counts.faults w.counts.faults line flag o p e s same (λ h. absurd (cc)) (λ h. absurd (cc)) }

-- the same of a line that is the same
pub said-as : (line other : List ℕ) (flag refused : Bool) (o p : KnownOutput) (e : End) → line ≡ other → flag ≡ refused → SaidLine line flag o p e → SaidLine other refused o p e
said-as line other flag refused o p e a b s = subst (λ z. SaidLine other z o p e) b (subst (λ z. SaidLine z flag o p e) a s)
