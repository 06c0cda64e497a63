-- Records and operations, one after another: the Tids that they have to have, and what makes them next.
use Rattle.std.specs.Prelude.{ℕ, ◌≡◌, ◌<◌, ◌≤◌, ◌+◌, Bool, true, ◌&&◌, not, List, [], ◌∷◌, length, nat_lt, is_some, refl}
use Rattle.std.proofs.Common.{sym, ap, subst, ◌∙◌, arith, lt-ltb}
use Rattle.std.specs.List.{AllByRecursion, list_all}
use Rattle.std.specs.declared.option.Option.{Option}
use Rattle.cp_path.specs.declared.loc.Loc.{Loc}
use Rattle.cp_model.specs.Place.{in_target}
use Rattle.cp_model.specs.declared.op.Op.{Op}
use Rattle.cp_model.specs.declared.record.Record.{Record}
use Rattle.cp_model.specs.declared.record.RecOp.{RecOp}
use Rattle.cp_model.specs.declared.record.RecOp.TheVariants as op
use Rattle.cp_record.specs.Kept.{is_copy}
use Rattle.cp_model.specs.Changes.{AreNext, is_source, is_between}
use Rattle.cp_frame.specs.Sound.{AreWritable, IsSoundBatch}
use Rattle.cp_db.specs.Committed.{TidsLieBetween}

-- ---- Tids

-- all records have one of the Tids exactly where those have that are still to come
pub record TidsSoFar (low high : ℕ) (rs rest : List Record) : Type 0 where
  pub to : TidsLieBetween low high rs → TidsLieBetween low high rest
  pub back : TidsLieBetween low high rest → TidsLieBetween low high rs

module _ (low high : ℕ) (rs : List Record) where
  pub tids-begun : (rest : List Record) → rest ≡ rs → TidsSoFar low high rs rest
  tids-begun rest e = record { to = subst (TidsLieBetween low high) (sym e); back = subst (TidsLieBetween low high) e }

  module _ (here : List Record) (s : TidsSoFar low high rs here) where
    -- none are left
    pub tids-ended : here ≡ [] → TidsLieBetween low high rs
    tids-ended e = s.back (subst (TidsLieBetween low high) (sym e) tt)

    module _ (r : Record) (rest : List Record) (next : here ≡ r ∷ rest) where
      -- the next one has one of them
      pub tids-next : low < r.tid → r.tid ≤ high → TidsSoFar low high rs rest
      tids-next l m = record {
        to = λ all. (subst (TidsLieBetween low high) next (s.to all)).1;
        back = λ more. s.back (subst (TidsLieBetween low high) (sym next) ((l, m), more));
      }

      -- it has to have one
      pub tids-first : TidsLieBetween low high rs → (low < r.tid) × (r.tid ≤ high)
      tids-first all = (subst (TidsLieBetween low high) next (s.to all)).0

-- ---- records that come next

both_true : (a b : Bool) → a ≡ true → b ≡ true → (a && b) ≡ true
both_true a b e f = ap (λ z. z && b) e ∙ f

source_where_copied : (o : RecOp) (q : Option Loc) → is_some q ≡ is_copy o → is_source o q ≡ true
source_where_copied op.I q e = ap not e
source_where_copied op.C q e = e
source_where_copied op.D q e = ap not e
source_where_copied op.K q e = ap not e

all_sources : (rs : List Record) → AreWritable rs → list_all (λ r. is_source r.op r.src) rs ≡ true
all_sources [] w = refl
all_sources (r ∷ rs) w = both_true (is_source r.op r.src) (list_all (λ s. is_source s.op s.src) rs) (source_where_copied r.op r.src w.0.1) (all_sources rs w.1)

all_between : (low high : ℕ) (rs : List Record) → AreWritable rs → TidsLieBetween low high rs → list_all (is_between low high) rs ≡ true
all_between low high [] w t = refl
all_between low high (r ∷ rs) w t =
    let up = t.0.1 in
    let above = both_true (in_target r.loc) (nat_lt low r.tid) w.0.0 (lt-ltb low r.tid t.0.0) in
    let within = both_true (in_target r.loc && nat_lt low r.tid) (nat_lt r.tid (high + 1)) above (lt-ltb r.tid (high + 1) (omega (arith, up))) in
    both_true (is_between low high r) (list_all (is_between low high) rs) within (all_between low high rs w.1 t.1)

-- the records of a sound batch that have these Tids come next
pub records-next : (trees : Bool) (os : List Op) (low high : ℕ) (rs : List Record) → IsSoundBatch trees os rs → TidsLieBetween low high rs → AreNext low high rs
records-next trees os low high rs s t = record { rise = s.rise; sources = all_sources rs s.records; between = all_between low high rs s.records t }
