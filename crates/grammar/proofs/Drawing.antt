-- What is drawn from a family: one of its heads, then its types, then its frames with some of their fields (`drawn-joined`), never more than the longest
-- possibilities (`drawn-fields`, `drawn-bytes`).
-- Assumes nothing.
use mathlib.Core.List.{List, [], ◌∷◌, ◌++◌, map, append_assoc}
use mathlib.Core.Path.{◌≡◌, refl, sym, ap, ◌∙◌, subst}
use Prim.Native.Nat.{ℕ, zero, suc, ◌+◌, ◌≤◌, max}
use native.Mathlib.Omega.{arith}
use lib.ListN.{length, get_or, length-append}
use Rattle.definitions.specs.Bytes.{Text}
use Rattle.grammar.specs.Choices.{next, choice, chosen, draw_slots}
use Rattle.grammar.specs.Fragments.{FieldSlots, Frame, Family, endians, target_line, arrays, frame_slots, slots_of}
use Rattle.fewer.proofs.Fewer.{Sublist}
use Rattle.fragments.specs.Groups.{Group, joined_fields, joined}
use Rattle.fragments.proofs.Groups.{FewerGroups}

-- ---- every possibility at once, and the most that can be drawn

abbrev pub concat : {A : Type 0} → List (List A) → List A
concat [] = []
concat (x ∷ xs) = x ++ concat xs

abbrev pub all_fields : FieldSlots → List Text
all_fields [] = []
all_fields (c ∷ cs) = concat c ++ all_fields cs

abbrev pub all_of : List Frame → List Group
all_of [] = []
all_of (f ∷ fs) = record { header = f.header; fields = all_fields f.slots } ∷ all_of fs

abbrev pub longest : {A : Type 0} → List (List A) → ℕ
longest [] = 0
longest (x ∷ xs) = max (length x) (longest xs)

-- of every slot the longest possibility
abbrev pub most : {A : Type 0} → List (List (List A)) → ℕ
most [] = 0
most (c ∷ cs) = longest c + most cs

-- ---- the text of slots, and the state behind them

abbrev pub pick_all : List (List Text) → ℕ → Text
pick_all [] s = []
pick_all (c ∷ cs) s = chosen (next s) c ++ pick_all cs (next s)

abbrev pub behind : {A : Type 0} → List A → ℕ → ℕ
behind [] s = s
behind (c ∷ cs) s = behind cs (next s)

pub drawn-picked : (cs : List (List Text)) (s : ℕ) → (draw_slots cs s).drawn ≡ pick_all cs s
unfolding draw_slots
drawn-picked [] s = refl
drawn-picked (c ∷ cs) s = ap (λ (t : Text). chosen (next s) c ++ t) (drawn-picked cs (next s))

picked_both : (xs ys : List (List Text)) (s : ℕ) → pick_all (xs ++ ys) s ≡ pick_all xs s ++ pick_all ys (behind xs s)
picked_both [] ys s = refl
picked_both (x ∷ xs) ys s =
    ap (λ (t : Text). chosen (next s) x ++ t) (picked_both xs ys (next s)) ∙ sym (append_assoc (chosen (next s) x) _ _)

-- a single possibility
chosen-only : (s : ℕ) (t : Text) → chosen s (t ∷ []) ≡ t
chosen-only s t = ap (λ (i : ℕ). get_or (t ∷ []) i []) (let e : choice s 1 ≡ 0 = omega arith in e)

-- ---- lists of lists

length-map : {A B : Type 0} (f : A → B) (xs : List A) → length (map f xs) ≡ length xs
length-map f [] = refl
length-map f (x ∷ xs) = ap suc (length-map f xs)

map-get_d : {A B : Type 0} (f : A → B) (xs : List A) (i : ℕ) (d : A) → get_or (map f xs) i (f d) ≡ f (get_or xs i d)
map-get_d f [] i d = refl
map-get_d f (x ∷ xs) zero d = refl
map-get_d f (x ∷ xs) (suc i) d = map-get_d f xs i d

module _ {A : Type 0} where
  none_of : (xs : List A) → Sublist [] xs
  none_of [] = Sublist.done
  none_of (x ∷ xs) = Sublist.skip (none_of xs)

  itself : (xs : List A) → Sublist xs xs
  itself [] = Sublist.done
  itself (x ∷ xs) = Sublist.keep (itself xs)

  both : {xs ys us vs : List A} → Sublist xs ys → Sublist us vs → Sublist (xs ++ us) (ys ++ vs)
  both Sublist.done k = k
  both (Sublist.keep l) k = Sublist.keep (both l k)
  both (Sublist.skip l) k = Sublist.skip (both l k)

  one_of : (c : List (List A)) (i : ℕ) → Sublist (get_or c i []) (concat c)
  one_of [] i = Sublist.done
  one_of (x ∷ c) zero = subst (λ (l : List A). Sublist l (x ++ concat c)) (no_more x) (both (itself x) (none_of (concat c)))
    where
      no_more : (x : List A) → x ++ [] ≡ x
      no_more [] = refl
      no_more (y ∷ x) = ap (λ (l : List A). y ∷ l) (no_more x)
  one_of (x ∷ c) (suc i) = both (none_of x) (one_of c i)

  at_most : (c : List (List A)) (i : ℕ) → length (get_or c i []) ≤ longest c
  at_most [] i = omega arith
  at_most (x ∷ c) zero = omega arith
  at_most (x ∷ c) (suc i) = let z = at_most c i in omega arith

-- ---- the fields of a frame

-- those that are drawn
abbrev pub chosen_fields : FieldSlots → ℕ → List Text
chosen_fields [] s = []
chosen_fields (c ∷ cs) s = get_or c (choice (next s) (length c)) [] ++ chosen_fields cs (next s)

fields-both : (xs ys : List Text) → joined_fields (xs ++ ys) ≡ joined_fields xs ++ joined_fields ys
fields-both [] ys = refl
fields-both (x ∷ xs) ys = ap (λ (t : Text). x ++ t) (fields-both xs ys) ∙ sym (append_assoc x _ _)

chosen-joined : (s : ℕ) (c : List (List Text)) → chosen s (map joined_fields c) ≡ joined_fields (get_or c (choice s (length c)) [])
chosen-joined s c =
    ap (λ (n : ℕ). get_or (map joined_fields c) (choice s n) []) (length-map joined_fields c) ∙ map-get_d joined_fields c (choice s (length c)) []

picked-fields : (cs : FieldSlots) (s : ℕ) → pick_all (map (map joined_fields) cs) s ≡ joined_fields (chosen_fields cs s)
picked-fields [] s = refl
picked-fields (c ∷ cs) s =
    rw (chosen-joined (next s) c, picked-fields cs (next s))
    (sym (fields-both (get_or c (choice (next s) (length c)) []) (chosen_fields cs (next s))))

fewer-fields : (cs : FieldSlots) (s : ℕ) → Sublist (chosen_fields cs s) (all_fields cs)
fewer-fields [] s = Sublist.done
fewer-fields (c ∷ cs) s = both (one_of c (choice (next s) (length c))) (fewer-fields cs (next s))

pub drawn-fields : (cs : FieldSlots) (s : ℕ) → length (chosen_fields cs s) ≤ most cs
drawn-fields [] s = omega arith
drawn-fields (c ∷ cs) s =
    let i = choice (next s) (length c) in
    let a = at_most c i in
    let b = drawn-fields cs (next s) in
    omega (arith, length-append (get_or c i []) (chosen_fields cs (next s)))

-- ---- the frames

abbrev pub chosen_frames : List Frame → ℕ → List Group
chosen_frames [] s = []
chosen_frames (f ∷ fs) s =
    record { header = f.header; fields = chosen_fields f.slots (next s) } ∷ chosen_frames fs (behind (map (map joined_fields) f.slots) (next s))

picked-frames : (fs : List Frame) (s : ℕ) → pick_all (frame_slots fs) s ≡ joined (chosen_frames fs s)
picked-frames [] s = refl
picked-frames (f ∷ fs) s =
    let slots = map (map joined_fields) f.slots in
    rw (
      chosen-only (next s) f.header,
      picked_both slots (frame_slots fs) (next s),
      picked-fields f.slots (next s),
      picked-frames fs (behind slots (next s)),
    )

pub fewer-frames : (fs : List Frame) (s : ℕ) → FewerGroups (chosen_frames fs s) (all_of fs)
fewer-frames [] s = FewerGroups.done
fewer-frames (f ∷ fs) s =
    FewerGroups.more refl (fewer-fields f.slots (next s)) (fewer-frames fs (behind (map (map joined_fields) f.slots) (next s)))

-- ---- the whole

joined-both : (gs hs : List Group) → joined (gs ++ hs) ≡ joined gs ++ joined hs
joined-both [] hs = refl
joined-both (g ∷ gs) hs =
    ap (λ (t : Text). g.header ++ (joined_fields g.fields ++ t)) (joined-both gs hs)
    ∙ ap (λ (t : Text). g.header ++ t) (sym (append_assoc (joined_fields g.fields) (joined gs) (joined hs))) ∙ sym (append_assoc g.header _ _)

module _ (x : Family) (s : ℕ) where
  -- the state before the slots of the frames
  abbrev pub before : ℕ
  before = next (next (next (next s)))

  -- the head that is drawn
  abbrev pub head_drawn : Text
  head_drawn =
      chosen (next s) endians ++ (chosen (next (next s)) (map target_line x.targets) ++ chosen (next (next (next s))) arrays)

  pub drawn-joined : (draw_slots (slots_of x) s).drawn ≡ head_drawn ++ joined (x.types ++ chosen_frames x.frames before)
  drawn-joined =
      drawn-picked (slots_of x) s
      ∙ rw (chosen-only before (joined x.types), picked-frames x.frames before, joined-both x.types (chosen_frames x.frames before))
      (simp append_assoc)

picked-bytes : (cs : List (List Text)) (s : ℕ) → length (pick_all cs s) ≤ most cs
picked-bytes [] s = omega arith
picked-bytes (c ∷ cs) s =
    let a : length (chosen (next s) c) ≤ longest c = at_most c (choice (next s) (length c)) in
    let b = picked-bytes cs (next s) in
    omega (arith, length-append (chosen (next s) c) (pick_all cs (next s)))

pub drawn-bytes : (cs : List (List Text)) (s : ℕ) → length (draw_slots cs s).drawn ≤ most cs
drawn-bytes cs s = omega (arith, picked-bytes cs s, ap length (drawn-picked cs s))
