-- The raw taps of a design in a list: the first are there, the rest come by their mirror images or two at a time, and
-- one may wait for the next. Over any raw values g, and any values h of them without their window. Assumes nothing.
use Rattle.std.specs.Prelude.{◌≡◌, refl, List, ℕ, ◌+◌, ◌*◌, ◌-◌, ◌^◌, ◌<◌, ◌≤◌, length, get_or, set, Float}
use Rattle.std.proofs.Common.{sym, ap, ◌∙◌, arith, length-set, get_or-set_same, get_or-set_other}
use Rattle.std.specs.Float.{nan}
use Rattle.laws.specs.Binary64.{◌⊕◌}
use Rattle.laws.specs.Cases.{either}
use Rattle.laws.specs.Numbers.{lt_or_le}
use Rattle.fir_cache.specs.Cached.{CachesOf}
use Rattle.fir_cache.specs.CachedLaws.{SumPrefix, taken}

-- how a sum of n goes: `front` of them first, whose values without their window lie from `last` downwards, past them;
-- and of the first `half` these lie where their mirror images go
pub record Planned (n front last half : ℕ) : Type 0 where
  pub within : front ≤ n
  pub apart : 2 * front ≤ last + 1
  pub small : last < 2 ^ 25
  pub mirrored : (k : ℕ) → k < half → (k + 1 < front) × (last + 1 ≡ n)

-- a list has the values of the first i from `last` downwards
abbrev pub Images : (ℕ → Float) → ℕ → ℕ → List Float → Type 0
Images h last i rs = (k : ℕ) → k < i → last - k < length rs → get_or rs (last - k) nan ≡ h k

-- from i on it has the value of the mirror image at each place, where that is one of the first `half`
abbrev pub Mirrors : (ℕ → Float) → ℕ → ℕ → ℕ → List Float → Type 0
Mirrors h n half i rs = (k : ℕ) → i ≤ k → k < n → n - 1 - k < half → get_or rs k nan ≡ h (n - 1 - k)

-- a list with places for n raw values keeps the first i, but for that at p, which waits and is there without its
-- window; the first `half` don't wait, and none does where p is n
pub record PendingTap (g h : ℕ → Float) (n half p i : ℕ) (rs : List Float) : Type 0 where
  pub room : n ≤ length rs
  pub after : half ≤ i
  pub late : half ≤ p
  pub behind : p < n → p < i
  pub waiting : p < n → get_or rs p nan ≡ h p
  pub keeps : (k : ℕ) → k < i → (k ≡ p → ⊥) → get_or rs k nan ≡ g k
  pub mirrors : Mirrors h n half i rs

-- what is read after a store at p
at : (g : ℕ → Float) (rs : List Float) (p k : ℕ) (v : Float) → v ≡ g p → p < length rs → ((k ≡ p → ⊥) → get_or rs k nan ≡ g k) → get_or (set rs p v) k nan ≡ g k
at g rs p k v e l o =
    either (lt_or_le k p) (λ a. let d : k ≡ p → ⊥ = λ (q : k ≡ p). omega arith in get_or-set_other rs p k v nan d ∙ o d)
    (λ a.
    either (lt_or_le p k) (λ b. let d : k ≡ p → ⊥ = λ (q : k ≡ p). omega arith in get_or-set_other rs p k v nan d ∙ o d)
    (λ b. let q : k ≡ p = omega arith in ap (λ (j : ℕ). get_or (set rs p v) j nan) q ∙ get_or-set_same rs p v nan l ∙ e ∙ ap g (sym q)))

-- a store elsewhere
past : (rs : List Float) (p k : ℕ) (v : Float) → p < k → get_or (set rs p v) k nan ≡ get_or rs k nan
past rs p k v l = get_or-set_other rs p k v nan (λ (q : k ≡ p). omega arith)

before : (rs : List Float) (p k : ℕ) (v : Float) → k < p → get_or (set rs p v) k nan ≡ get_or rs k nan
before rs p k v l = get_or-set_other rs p k v nan (λ (q : k ≡ p). omega arith)

-- a store before all of them, or of the next
pub images_before : (h : ℕ → Float) (last i : ℕ) (rs : List Float) (p : ℕ) (v : Float) → p + i ≤ last → Images h last i rs → Images h last i (set rs p v)
images_before h last i rs p v b t k l m = past rs p (last - k) v (omega arith) ∙ t k l (omega (arith, length-set rs p v))

pub images_more : (h : ℕ → Float) (last i : ℕ) (rs : List Float) (v : Float) → i ≤ last → v ≡ h i → Images h last i rs → Images h last (i + 1) (set rs (last - i) v)
images_more h last i rs v b e t k l m =
    let w : last - k < length rs = omega (arith, length-set rs (last - i) v) in
    either (lt_or_le k i) (λ a. past rs (last - i) (last - k) v (omega arith) ∙ t k a w)
    (λ a. let q : k ≡ i = omega arith in ap (λ (j : ℕ). get_or (set rs (last - i) v) (last - j) nan) q ∙ get_or-set_same rs (last - i) v nan (omega arith) ∙ e ∙ ap h (sym q))

-- a store past those that are kept
pub cached_past : {g : ℕ → Float} {n : ℕ} {begun raws : List Float} {sum : Float} {i : ℕ} (k : ℕ) (v : Float) → i ≤ k → SumPrefix g n begun raws sum i → SumPrefix g n begun (set raws k v) sum i
cached_past {raws = raws} k v l s =
    record {
      within = s.within;
      same = length-set raws k v ∙ s.same;
      summed = record { is = s.summed.is; keeps = λ j a b. before raws k j v (omega arith) ∙ s.summed.keeps j a (omega (arith, length-set raws k v)) };
    }

-- two more, by the four stores of them
pub two_more : {g h : ℕ → Float} {n front last half : ℕ} {begun raws raws2 : List Float} {sum sum2 : Float} {i : ℕ} {a b v w : Float} → Planned n front last half → i + 1 < front → SumPrefix g n begun raws sum i → Images h last i raws → v ≡ g i → w ≡ g (i + 1) → a ≡ h i → b ≡ h (i + 1) → (sum2 ≡ sum ⊕ v ⊕ w) × (raws2 ≡ set (set (set (set raws i v) (i + 1) w) (last - i) a) (last - (i + 1)) b) → SumPrefix g n begun raws2 sum2 (i + 2) × Images h last (i + 2) raws2
two_more {h = h} {last = last} {raws = raws} {i = i} {a = a} {b = b} {v = v} {w = w} p f s m ev ew ea eb r =
    let two : i + 2 ≡ i + 1 + 1 = omega arith in
    let l = p.apart in
    let t = taken (taken s (omega (arith, p.within)) ev (refl, refl)) (omega (arith, p.within)) ew (refl, refl) in
    let one = images_before h last i (set raws i v) (i + 1) w (omega arith) (images_before h last i raws i v (omega arith) m) in
    rw (two, r.0, r.1) (
      cached_past (last - (i + 1)) b (omega arith) (cached_past (last - i) a (omega arith) t),
      images_more h last (i + 1) (set (set (set raws i v) (i + 1) w) (last - i) a) b (omega arith) eb (images_more h last i (set (set raws i v) (i + 1) w) a (omega arith) ea one),
    )

-- where the first have been worked out
pub pending_none : {g h : ℕ → Float} {n front last half i : ℕ} {rs : List Float} → Planned n front last half → front ≤ i + 1 → i ≤ n → n ≤ length rs → CachesOf g i rs → Images h last i rs → PendingTap g h n half n i rs
pending_none {h = h} {n = n} {last = last} {half = half} {i = i} {rs = rs} t f b r k m =
    let below : half ≤ i = either (lt_or_le i half) (λ a. absurd (omega (arith, (t.mirrored i a).0))) (λ a. a) in
    record {
      room = r;
      after = below;
      late = omega arith;
      behind = λ a. absurd (omega arith);
      waiting = λ a. absurd (omega arith);
      keeps = λ j l d. k j l (omega arith);
      mirrors =
          λ j a l d.
          let q = t.mirrored (n - 1 - j) d in
          let e : last - (n - 1 - j) ≡ j = omega (arith, q.1) in
          ap (λ (z : ℕ). get_or rs z nan) (sym e) ∙ m (n - 1 - j) (omega (arith, q.0)) (omega (arith, q.1));
    }

module _ {g h : ℕ → Float} {n half p i : ℕ} {rs : List Float} (t : PendingTap g h n half p i rs) where
  -- the next value is stored
  pub pending_more : {v : Float} → i < n → v ≡ g i → PendingTap g h n half p (i + 1) (set rs i v)
  pending_more {v = v} l e =
      record {
        room = omega (arith, t.room, length-set rs i v);
        after = omega (arith, t.after);
        late = t.late;
        behind = λ b. omega (arith, t.behind b);
        waiting = λ b. before rs i p v (t.behind b) ∙ t.waiting b;
        keeps = λ k b d. at g rs i k v e (omega (arith, t.room)) (λ o. t.keeps k (omega arith) d);
        mirrors = λ k a b d. past rs i k v (omega arith) ∙ t.mirrors k (omega arith) b d;
      }

  -- it waits, where none does
  pub pending_next : {v : Float} → i < n → n ≤ p → v ≡ h i → PendingTap g h n half i (i + 1) (set rs i v)
  pending_next {v = v} l b e =
      record {
        room = omega (arith, t.room, length-set rs i v);
        after = omega (arith, t.after);
        late = t.after;
        behind = λ z. omega arith;
        waiting = λ z. get_or-set_same rs i v nan (omega (arith, t.room)) ∙ e;
        keeps = λ k a d. before rs i k v (omega (arith, k_below k a d)) ∙ t.keeps k (k_below k a d) (λ (q : k ≡ p). omega arith);
        mirrors = λ k a c d. past rs i k v (omega arith) ∙ t.mirrors k (omega arith) c d;
      }
    where
      k_below : (k : ℕ) → k < i + 1 → (k ≡ i → ⊥) → k < i
      k_below k a d = either (lt_or_le k i) (λ z. z) (λ z. absurd (d (omega arith)))

  -- the one that waits is stored
  pub pending_over : {v : Float} → i ≤ n → p < n → v ≡ g p → PendingTap g h n half n i (set rs p v)
  pending_over {v = v} l b e =
      record {
        room = omega (arith, t.room, length-set rs p v);
        after = t.after;
        late = omega (arith, t.after);
        behind = λ z. absurd (omega arith);
        waiting = λ z. absurd (omega arith);
        keeps = λ k a d. at g rs p k v e (omega (arith, t.room)) (λ o. t.keeps k a o);
        mirrors = λ k a c d. past rs p k v (omega (arith, t.behind b)) ∙ t.mirrors k a c d;
      }

-- all are kept
pub pending_all : {g h : ℕ → Float} {n half p i : ℕ} {rs : List Float} → PendingTap g h n half p i rs → n ≤ i → n ≤ p → CachesOf g n rs
pending_all t a b k l m = t.keeps k (omega arith) (λ q. omega arith)
