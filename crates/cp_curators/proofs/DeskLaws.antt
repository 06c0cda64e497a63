-- Transactions have begun by the last Tid.
use Rattle.std.specs.Prelude.{ℕ, ◌≡◌, ◌≤◌, ◌<◌, Bool, true, false, List, if◌then◌else◌, refl}
use Rattle.std.proofs.Common.{subst, arith}
use Rattle.std.specs.declared.option.Option.{Option}
use Rattle.std.specs.declared.option.Option.TheVariants.{None, Some}
use Rattle.cp_path.specs.Text.{text_eq}
use Rattle.cp_model.specs.Tree.{Tree}
use Rattle.cp_model.specs.declared.kind.Kind.{Kind}
use Rattle.cp_engine.specs.Transactions.{Progress}
use Rattle.cp_curators.specs.Desks.{Desk, Desks, no_desks, with_desk, new_desk, desk_or, come_to, HaveBegunBy}
use Rattle.cp_curators.specs.Laws.{TransactionsHaveBegun}

-- one transaction has begun by the last Tid
pub record HasBegunBy (t : Tree) (k : Kind) (n : ℕ) (d : Desk) : Type 0 where
  pub kind : d.kind ≡ k
  pub since : d.since ≤ n
  pub start : d.since ≡ n → d.start ≡ t

-- where it is one of these
of_desks : (t : Tree) (k : Kind) (n : ℕ) (desks : Desks) → HaveBegunBy t k n desks → (m : List ℕ) (d : Desk) → desks m ≡ Some d → HasBegunBy t k n d
of_desks t k n desks h m d e = record { kind = h.kinds m d e; since = h.since m d e; start = h.starts m d e }

-- where each of them has
all_of : (t : Tree) (k : Kind) (n : ℕ) (desks : Desks) → ((m : List ℕ) (d : Desk) → desks m ≡ Some d → HasBegunBy t k n d) → HaveBegunBy t k n desks
all_of t k n desks h = record { kinds = λ m d e. (h m d e).kind; since = λ m d e. (h m d e).since; starts = λ m d e. (h m d e).start }

-- where there are none
pub none_begun : (t : Tree) (k : Kind) (n : ℕ) → HaveBegunBy t k n no_desks
none_begun t k n = all_of t k n no_desks (λ m d e. absurd (cc))

-- one name's may become another that has begun by then
begun_with : (t : Tree) (k : Kind) (n : ℕ) (desks : Desks) (m : List ℕ) (o : Option Desk) → ((d : Desk) → o ≡ Some d → HasBegunBy t k n d) → HaveBegunBy t k n desks → HaveBegunBy t k n (with_desk m o desks)
begun_with t k n desks m o h g = all_of t k n (with_desk m o desks) (λ q d e. either q d (text_eq m q) e)
  where
    either : (q : List ℕ) (d : Desk) (b : Bool) → (if b then o else desks q) ≡ Some d → HasBegunBy t k n d
    either q d true e = h d e
    either q d false e = of_desks t k n desks g q d e

-- a desk that goes on has begun when it did, and a new one begins now
begun_or_new : (t : Tree) (k : Kind) (n : ℕ) (o : Option Desk) (p : Progress) → ((d : Desk) → o ≡ Some d → HasBegunBy t k n d) → HasBegunBy t k n (come_to (desk_or o (new_desk t k n)) p)
begun_or_new t k n None p h = record { kind = refl; since = omega arith; start = λ e. refl }
begun_or_new t k n (Some d) p h = let b = h d refl in record { kind = b.kind; since = b.since; start = b.start }

pub goes_on : (t : Tree) (k : Kind) (n : ℕ) (desks : Desks) (m : List ℕ) (p : Progress) → HaveBegunBy t k n desks → HaveBegunBy t k n (with_desk m (Some (come_to (desk_or (desks m) (new_desk t k n)) p)) desks)
goes_on t k n desks m p h =
    let b = begun_or_new t k n (desks m) p (of_desks t k n desks h m) in
    begun_with t k n desks m (Some (come_to (desk_or (desks m) (new_desk t k n)) p)) (λ d e. let same : come_to (desk_or (desks m) (new_desk t k n)) p ≡ d = cc in subst (HasBegunBy t k n) same b) h

-- one that ends is none of them
pub ends : (t : Tree) (k : Kind) (n : ℕ) (desks : Desks) (m : List ℕ) → HaveBegunBy t k n desks → HaveBegunBy t k n (with_desk m None desks)
ends t k n desks m h = begun_with t k n desks m None (λ d e. absurd (cc)) h

-- after further commits none of them began at the last Tid
pub committed : (t u : Tree) (k : Kind) (n o : ℕ) (desks : Desks) → HaveBegunBy t k n desks → n < o → HaveBegunBy u k o desks
committed t u k n o desks h l = all_of u k o desks (λ m d e.
    let b = of_desks t k n desks h m d e in
    let since = b.since in
    record { kind = b.kind; since = omega (arith, since, l); start = λ now. absurd (omega (arith, since, l, now)) })

pub transactions-have-begun : TransactionsHaveBegun
transactions-have-begun = record {
  none = none_begun;
  goes_on = goes_on;
  ends = ends;
  committed = committed;
}
