-- A window that is filled again (`Refilled`), and the next case in it (`last_of`, `NextAt`). Assumes nothing.
use Rattle.std.specs.Prelude.{Some, None, Result, Ok, Err}
use Prim.Native.Nat.{ℕ, ◌≤◌}
use mathlib.Core.Path.{◌≡◌, refl, sym, ap, ◌∙◌, subst}
use native.Mathlib.Nat.{zero-add}
use native.Mathlib.Omega.{arith}
use borrow.Author.Tests.{eq-eqb, ne_eqb}
use lib.ListN.{length, take, drop, length-drop}
use lib.Seq.{paste, length-paste, take-paste}
use Rattle.definitions.specs.Bytes.{Text}
use Rattle.console.specs.Reads.{Filled, FilledTo}
use Rattle.console.specs.declared.Input.{Input}
use Rattle.cases.specs.Form.{case_at, Slid}
use Rattle.cases.specs.Window.{Refilled, Next, last_of, NextOf, NextAt}
use Rattle.cases.specs.declared.Broken.{Broken}
use Rattle.cases.specs.declared.Case.{Case}

-- ---- what is not yet read comes to the front, and more behind it

module _ (b : Text) (at end : ℕ) {k : ℕ} {mid : Text} (s : Slid b at end k mid) {r : Input} {left : Text} (f : Filled r k mid left) where
  there : k ≤ length (drop at b)
  there = omega (arith, s.count, length-drop at b)

  same : length mid ≡ length b
  same = ap length s.moved ∙ length-paste b 0 (drop at b) k (omega (arith, s.count)) there

  front : take k mid ≡ take k (drop at b)
  front =
      ap (λ (l : Text). take k l) s.moved
      ∙ ap (λ (n : ℕ). take n (paste b 0 (drop at b) k)) (sym (zero-add k))
      ∙ take-paste b 0 (drop at b) k (omega arith) there

  filled-to : {n : ℕ} → k ≤ n → n ≤ length mid → Refilled b at end n left
  filled-to {n} h w = record {
    long = f.long ∙ same;
    more = omega (arith, h, s.count);
    fits = omega (arith, w, same);
    kept = subst (λ (i : ℕ). take i left ≡ take i (drop at b)) s.count (f.kept ∙ front);
  }

  pub refill-full : {n : ℕ} → r ≡ Input.Full n → Refilled b at end n left
  refill-full {n} e =
      let h : FilledTo (Input.Full n) k (length mid) = rw e at f.ends in
      filled-to (omega (arith, h, same, s.count)) (omega (arith, h))

  pub refill-ended : {n : ℕ} → r ≡ Input.Ended n → Refilled b at end n left
  refill-ended {n} e =
      let h : FilledTo (Input.Ended n) k (length mid) = rw e at f.ends in
      filled-to h.0 (omega (arith, h.1))

  pub refill-failed : r ≡ Input.Failed → Refilled b at end k left
  refill-failed e = filled-to (omega arith) (omega (arith, same, s.count))

-- ---- the case at the front

module _ (w : Text) (end : ℕ) {s : Text} (p : s ≡ take end w) {x : Result Case Broken} (e : x ≡ case_at s 0) where
  found : x ≡ case_at (take end w) 0
  found = e ∙ ap (λ (t : Text). case_at t 0) p

  pub last-case : {case : Case} → x ≡ Ok case → Ok (Some (case, end)) ≡ last_of (case_at (take end w) 0) end
  last-case h = ap (λ (y : Result Case Broken). last_of y end) (sym h ∙ found)

  pub last-wrong : x ≡ Err Broken.Wrong → Err Broken.Wrong ≡ last_of (case_at (take end w) 0) end
  last-wrong h = ap (λ (y : Result Case Broken). last_of y end) (sym h ∙ found)

  cut-is : x ≡ Err Broken.Cut → last_of (Err Broken.Cut) end ≡ last_of (case_at (take end w) 0) end
  cut-is h = ap (λ (y : Result Case Broken). last_of y end) (sym h ∙ found)

  pub last_end : x ≡ Err Broken.Cut → end ≡ 0 → Ok None ≡ last_of (case_at (take end w) 0) end
  last_end h z = rw (last_of, eq-eqb end 0 z) at (cut-is h)

  pub last-cut : x ≡ Err Broken.Cut → (end ≡ 0 → ⊥) → Err Broken.Cut ≡ last_of (case_at (take end w) 0) end
  last-cut h z = rw (last_of, ne_eqb end 0 z) at (cut-is h)

-- ---- the case at a place, or at the front of what is filled again

module _ (b : Text) (at end : ℕ) {s : Text} (p : s ≡ take end b) {x : Result Case Broken} (e : x ≡ case_at s at) where
  meets : (r : Next) (left : Text) {y : Result Case Broken} → x ≡ y → NextOf y b at end r left → NextAt b at end r left
  meets r left h n = subst (λ (z : Result Case Broken). NextOf z b at end r left) (sym h ∙ e ∙ ap (λ (t : Text). case_at t at) p) n

  pub next_here : {case : Case} → x ≡ Ok case → NextAt b at end (Ok (Some (case, end))) b
  next_here {case} h = meets (Ok (Some (case, end))) b h (refl, refl)

  pub next-wrong : x ≡ Err Broken.Wrong → NextAt b at end (Err Broken.Wrong) b
  next-wrong h = meets (Err Broken.Wrong) b h (refl, refl)

  pub next-again : x ≡ Err Broken.Cut → {n : ℕ} {left : Text} → Refilled b at end n left → {r : Next} → r ≡ last_of (case_at (take n left) 0) n
      → NextAt b at end r left
  next-again h {n} {left} f {r} k = meets r left h (record { filled = n; refilled = f; next_is = k })

pub ruleset refills = (refill-full, refill-ended, refill-failed)

pub ruleset lasts = (last-case, last-wrong, last_end, last-cut)

pub ruleset nexts = (next_here, next-wrong, next-again)
