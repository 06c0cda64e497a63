-- What statements spend, one after another, and which of them ask the clock.
use Rattle.std.proofs.Common.{◌≡◌, ℕ, ◌+◌, inl, inr, refl, sym, ap, subst, ◌∙◌, Result, Ok, Err, arith}
use Rattle.std.specs.declared.option.Option.TheVariants.{None, Some}
use Rattle.cp_outside.specs.declared.files.FilesFault.{FilesFault}
use Rattle.cp_outside.specs.declared.files.FilesFault.TheVariants as fails
use Rattle.cp_model.specs.Tree.{Tree}
use Rattle.cp_model.specs.Past.{tree_of}
use Rattle.cp_model.specs.declared.refusal.Cause.{Cause}
use Rattle.cp_engine.specs.Transactions as txn
use Rattle.cp_engine.specs.declared.txn.Txn.{Txn}
use Rattle.cp_engine.specs.declared.state.TxnState.TheVariants as state
use Rattle.cp_reply.specs.Session.{Session, OpenTransaction, closed, going, failed}
use Rattle.cp_workspace.specs.Clocks.{KnownClock, HasAsked}
use Rattle.cp_workspace.specs.Commits.{commit_asks}
use Rattle.cp_workspace.specs.Files.{KnownFiles, HasRead, more}
use Rattle.cp_workspace.specs.Spending.{HasSpent, Spends}
use Rattle.cp_workspace.specs.Texts.{Terms}
use Rattle.cp_workspace.specs.Workspaces.{Stands, Opens}
use Rattle.cp_workspace.specs.declared.fault.WorkspaceFault.{WorkspaceFault}
use Rattle.cp_workspace.specs.declared.fault.WorkspaceFault.TheVariants.{File, Disk, Clock, Memory}
use Rattle.cp_workspace.specs.declared.workspace.Workspace.{Workspace}
use Rattle.cp_workspace.proofs.Committing.{TellsState}
use Rattle.cp_workspace.proofs.ReadCounts.{more-more, read-sum}

-- ---- one after another

-- nothing was spent
pub spent-none : (f : KnownFiles) (k : KnownClock) → HasSpent 0 0 f f k k
spent-none f k = record { read = refl; asked = refl }

-- some was spent, and then more
pub spent-sum : (fb fm fa : KnownFiles) (kb km ka : KnownClock) (n m i j x y : ℕ) → x ≡ n + i → y ≡ m + j → HasSpent n m fb fm kb km → HasSpent i j fm fa km ka → HasSpent x y fb fa kb ka
spent-sum fb fm fa kb km ka n m i j x y xs ys first second = record {
  read = read-sum fb fm fa n i x xs first.read second.read;
  asked = subst (HasAsked kb ka) (sym ys) (second.asked ∙ ap (λ c. more c j) first.asked ∙ more-more kb.asked m j);
}

-- the same of counts that are the same
pub spent-as : (fb fa : KnownFiles) (kb ka : KnownClock) (n m i j : ℕ) → i ≡ n → j ≡ m → HasSpent n m fb fa kb ka → HasSpent i j fb fa kb ka
spent-as fb fa kb ka n m i j is js spent = subst (λ z. HasSpent z j fb fa kb ka) (sym is) (subst (λ z. HasSpent n z fb fa kb ka) (sym js) spent)

-- ---- errors

-- memory ran out before anything was spent
pub spends-nothing : {T : Type 0} (n m : ℕ) (f : KnownFiles) (k : KnownClock) (result : Result T WorkspaceFault) → (y : WorkspaceFault) × (result ≡ Err y) × (y ≡ Memory) → Spends n m f f k k result
spends-nothing {T} n m f k result p = subst (Spends {T = T} n m f f k k) (sym (p.1 ∙ ap (λ z. Err z) p.2)) (inl (spent-none f k))

-- an error is passed on
pub spends-passed : (T : Type 0) {S : Type 0} (n m : ℕ) (fb fa : KnownFiles) (kb ka : KnownClock) (e : WorkspaceFault) (result : Result S WorkspaceFault) → Spends {T = T} n m fb fa kb ka (Err e) → (y : WorkspaceFault) × (result ≡ Err y) × (y ≡ e) → Spends n m fb fa kb ka result
spends-passed T {S} n m fb fa kb ka e result spends p = subst (Spends {T = S} n m fb fa kb ka) (sym (p.1 ∙ ap (λ z. Err z) p.2)) (same e spends)
  where
    same : (e : WorkspaceFault) → Spends {T = T} n m fb fa kb ka (Err e) → Spends {T = S} n m fb fa kb ka (Err e)
    same File s = s
    same Disk s = s
    same Clock s = s
    same Memory s = s

-- ---- loads

-- the one file was read that was to be
pub spends-file : {T : Type 0} (n : ℕ) (fb fa : KnownFiles) (k : KnownClock) (result : Result T WorkspaceFault) → n ≡ 1 → HasRead fb fa 1 → (result ≡ Err Clock → ⊥) → Spends n 0 fb fa k k result
spends-file n fb fa k result one read never = spends result never
  where
    all : HasSpent n 0 fb fa k k
    all = record { read = subst (HasRead fb fa) (sym one) read; asked = refl }

    spends : {T : Type 0} (r : Result T WorkspaceFault) → (r ≡ Err Clock → ⊥) → Spends n 0 fb fa k k r
    spends (Ok x) never = all
    spends (Err File) never = (one, all)
    spends (Err Disk) never = (omega (arith, one), all)
    spends (Err Clock) never = absurd (never refl)
    spends (Err Memory) never = inr all

-- it failed, or memory ran out
pub spends-failed : {T : Type 0} (n : ℕ) (fb fa : KnownFiles) (k : KnownClock) (fault : FilesFault) (result : Result T WorkspaceFault) → n ≡ 1 → HasRead fb fa 1
    → (y : WorkspaceFault) × (result ≡ Err y) × ((fault ≡ fails.Failed → y ≡ File) × (fault ≡ fails.Memory → y ≡ Memory)) → Spends n 0 fb fa k k result
spends-failed n fb fa k fails.Failed result one read p = spends-file n fb fa k result one read (λ h. let is : Err File ≡ Err Clock = ap (λ z. Err z) (sym (p.2.0 refl)) ∙ sym p.1 ∙ h in absurd (cc))
spends-failed n fb fa k fails.Memory result one read p = spends-file n fb fa k result one read (λ h. let is : Err Memory ≡ Err Clock = ap (λ z. Err z) (sym (p.2.1 refl)) ∙ sym p.1 ∙ h in absurd (cc))

-- where none was to be read
pub spends-unread : (n : ℕ) (f : KnownFiles) (k : KnownClock) → n ≡ 0 → HasSpent n 0 f f k k
spends-unread n f k none = spent-as f f k k 0 0 n 0 none refl (spent-none f k)

-- ---- commits

module _ {R S : Type 0} (view : R → Tree) (source_view : S → Tree) (terms : Terms) (d : Workspace R S) (s : Session) (z : Stands view source_view terms d s) where
  -- no transaction is open
  pub asks-none : d.transaction ≡ None → commit_asks s.opened ≡ 0
  asks-none none = by s.opened (subst (λ y. Opens view source_view d.db y s.opened) none z.opened)
    where
      by : (o : OpenTransaction) → Opens view source_view d.db None o → commit_asks o ≡ 0
      by closed h = refl
      by (going ops) h = absurd h
      by (failed n c) h = absurd h

  module _ (x : Txn R) (there : d.transaction ≡ Some x) where
    opens : Opens view source_view d.db (Some x) s.opened
    opens = subst (λ y. Opens view source_view d.db y s.opened) there z.opened

    -- the open transaction has failed
    pub asks-failed : (j : ℕ) (b : Cause) → TellsState view x (state.Failed j b) → commit_asks s.opened ≡ 0
    asks-failed j b tells = by s.opened opens
      where
        by : (o : OpenTransaction) → Opens view source_view d.db (Some x) o → commit_asks o ≡ 0
        by closed h = refl
        by (going ops) h = let other = tells z.db.state.kind z.db.state.sources (tree_of z.db.state.tree) (z.db.state.now + 1) (txn.going ops) (h.0 z.db.state z.db.holds) in absurd (cc)
        by (failed n c) h = refl

    -- it is going
    pub asks-going : (j : ℕ) → TellsState view x (state.Going j) → commit_asks s.opened ≡ 1
    asks-going j tells = by s.opened opens
      where
        by : (o : OpenTransaction) → Opens view source_view d.db (Some x) o → commit_asks o ≡ 1
        by closed h = absurd h
        by (going ops) h = refl
        by (failed n c) h = let other = tells z.db.state.kind z.db.state.sources (tree_of z.db.state.tree) (z.db.state.now + 1) (txn.failed n c) (h z.db.state z.db.holds) in absurd (cc)
