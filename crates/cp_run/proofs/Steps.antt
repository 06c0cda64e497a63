-- One look, as a step of a cache of pages.
use Rattle.std.proofs.Common.{arith, ◌≡◌, ◌≤◌, ◌+◌, ◌∙◌, ap, sym, subst, ℕ, List, [], ◌∷◌, length, nat_eq, true, false, true≢false, is_some, Option, Some, None, Ok}
use Rattle.std.specs.Map.{keys_of, lookup}
use Rattle.lru.specs.LruCache.{LruCache, lru_cache, promoted, put_entries}
use Rattle.cp_page.specs.declared.page.Page.{Page}
use Rattle.cp_run.specs.declared.look.TheConstants.{PAGES_KEPT}
use Rattle.cp_run.specs.Looks.{after_look, Looked, pages_read, is_among}
use Rattle.cp_run.specs.Sets.{IsCache}
use Rattle.cp_run.specs.Pages.{IsPageAt, ArePagesOf}
use Rattle.cp_run.proofs.Keeping.{IsLook, promotes, puts, put_here, found_among, no_hit}

pub miss_count : (k : ℕ) (ks : List ℕ) (n m : ℕ) → is_among k ks ≡ false → m ≤ n + 1 → m ≤ n + length (pages_read PAGES_KEPT (k ∷ []) ks)
miss_count k ks n m new few = rw new few

pub found_some : (k : ℕ) (es : List (ℕ × Page)) → is_some (lookup (nat_eq k) es) ≡ true → lookup (nat_eq k) es ≡ None → ⊥
found_some k es found none = true≢false (sym found ∙ ap is_some none)

pub gone_count : (k : ℕ) (es : List (ℕ × Page)) (n m : ℕ) → is_some (lookup (nat_eq k) es) ≡ false → m ≤ n + 1 → m ≤ n + length (pages_read PAGES_KEPT (k ∷ []) (keys_of es))
gone_count k es n m gone few = miss_count k (keys_of es) n m (sym (found_among k es) ∙ gone) few

pub put_after : (k : ℕ) (c b d : LruCache ℕ Page) (is : IsCache c) (v : Page) → is_some (lookup (nat_eq k) c.entries) ≡ false → b ≡ c → d ≡ lru_cache (put_entries nat_eq b k v) b.cap → IsLook k c d
put_after k c b d is v gone same e = subst (IsLook k c) (sym (e ∙ ap (λ (x : LruCache ℕ Page). lru_cache (put_entries nat_eq x k v) x.cap) same)) (puts k c v (omega (arith, is.cap)) gone)

module _ (k : ℕ) (c d : LruCache ℕ Page) (is : IsCache c) where
  pub hit_step : is_some (lookup (nat_eq k) c.entries) ≡ true → d ≡ lru_cache (promoted (nat_eq k) c.entries) c.cap → IsLook k c d
  hit_step found e = subst (IsLook k c) (sym e) (promotes k c (omega (arith, is.few, is.cap)) found)

  pub put_step : (v : Page) → is_some (lookup (nat_eq k) c.entries) ≡ false → d ≡ lru_cache (put_entries nat_eq c k v) c.cap → IsLook k c d
  put_step v gone e = subst (IsLook k c) (sym e) (puts k c v (omega (arith, is.cap)) gone)

  pub no_step : is_some (lookup (nat_eq k) c.entries) ≡ false → d ≡ lru_cache (promoted (nat_eq k) c.entries) c.cap → d ≡ c
  no_step gone e = e ∙ ap (λ es. lru_cache es c.cap) (no_hit k c.entries gone)

  pub step_cache : IsLook k c d → IsCache d
  step_cache l = record { cap = l.cap ∙ is.cap; few = omega (arith, l.few, is.cap) }

  step_keys : IsLook k c d → keys_of d.entries ≡ after_look PAGES_KEPT k (keys_of c.entries)
  step_keys l = l.keys ∙ ap (λ n. after_look n k (keys_of c.entries)) is.cap

  pub hit_looked : {T E : Type 0} (x : T) (n : ℕ) → is_some (lookup (nat_eq k) c.entries) ≡ true → IsLook k c d → Looked {T = T} {E = E} PAGES_KEPT (k ∷ []) (keys_of c.entries) (keys_of d.entries) n n (Ok x)
  hit_looked x n found l = record { count = omega arith; kept_now = step_keys l }

  pub put_looked : {T E : Type 0} (x : T) (n m : ℕ) → is_some (lookup (nat_eq k) c.entries) ≡ false → m ≤ n + 1 → IsLook k c d → Looked {T = T} {E = E} PAGES_KEPT (k ∷ []) (keys_of c.entries) (keys_of d.entries) n m (Ok x)
  put_looked x n m gone few l = record { count = miss_count k (keys_of c.entries) n m (sym (found_among k c.entries) ∙ gone) few; kept_now = step_keys l }

  -- the pages stay those of a file whose content stays
  pub step_pages : (old new : List ℕ) → new ≡ old → ((v : Page) → lookup (nat_eq k) c.entries ≡ None → lookup (nat_eq k) d.entries ≡ Some v → IsPageAt new k v) → IsLook k c d → ArePagesOf old c.entries → ArePagesOf new d.entries
  step_pages old new same page l all = l.all (λ e. IsPageAt new e.0 e.1) page (subst (λ f. ArePagesOf f c.entries) (sym same) all)

  pub no_pages : (old new : List ℕ) → new ≡ old → is_some (lookup (nat_eq k) c.entries) ≡ false → d ≡ lru_cache (promoted (nat_eq k) c.entries) c.cap → ArePagesOf old c.entries → ArePagesOf new d.entries
  no_pages old new same gone e all = rw (no_step gone e, same) all

some_same : {X : Type 0} (o : Option X) (v w : X) → o ≡ Some v → o ≡ Some w → v ≡ w
some_same o v w e f = cc

pub put_pages : (k : ℕ) (c b d : LruCache ℕ Page) (is : IsCache c) (v : Page) (old new : List ℕ) → new ≡ old → IsPageAt old k v → is_some (lookup (nat_eq k) c.entries) ≡ false → b ≡ c → d ≡ lru_cache (put_entries nat_eq b k v) b.cap → ArePagesOf old c.entries → ArePagesOf new d.entries
put_pages k c b d is v old new same page gone before e all =
    let here : lookup (nat_eq k) d.entries ≡ Some v = rw (e, before) (put_here k c v gone) in
    step_pages k c d is old new same
    (λ w none there. subst (IsPageAt new k) (some_same _ v w here there) (subst (λ f. IsPageAt f k v) (sym same) page))
    (put_after k c b d is v gone before e) all
