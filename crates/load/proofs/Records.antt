-- The records of a load, one after the other. Assumes nothing.
use Rattle.std.proofs.Common.{◌≡◌, ℕ, List, [], ◌∷◌, ◌++◌, take, Option, suc, sym, ap, ◌∙◌, subst, append_assoc, append-nil}
use Rattle.std.specs.Io.KnownBytes.{Appends}
use Rattle.std.proofs.KnownBytes.{Appends-trans}
use Rattle.console.proofs.Pieces.{fails_before, fails_behind, fails_same}
use Rattle.definitions.specs.Bytes.{Text}
use Rattle.grammar.specs.Load.{draw_record, load}

abbrev pub record_text : ℕ → Text
record_text s = (draw_record s).drawn ++ (10 ∷ [])

-- the first record, and the others
load_first : (n s : ℕ) → load (suc n) s ≡ record_text s ++ load n (draw_record s).state
unfolding load
load_first n s = sym (append_assoc (draw_record s).drawn (10 ∷ []) (load n (draw_record s).state))

-- with n records to go, from the state s, the others of the whole stand behind what was held
abbrev pub Written : Option (List ℕ) → Option (List ℕ) → Text → ℕ → ℕ → Type 0
Written held now whole n s = (ys : Text) × (whole ≡ ys ++ load n s) × Appends held now ys

module _ (held now : Option (List ℕ)) (whole : Text) (n s : ℕ) where
  pub whole_written : n ≡ 0 → Written held now whole n s → Appends held now whole
  unfolding load
  whole_written e (ys, w, p) = subst (Appends held now) (sym (w ∙ ap (λ k. ys ++ load k s) e ∙ append-nil ys)) p

module _ (held now : Option (List ℕ)) (whole : Text) (m n s : ℕ) (e : m ≡ suc n) where
  split : (ys : Text) → whole ≡ ys ++ load m s → whole ≡ (ys ++ record_text s) ++ load n (draw_record s).state
  split ys w =
      w ∙ ap (λ k. ys ++ load k s) e ∙ ap (λ l. ys ++ l) (load_first n s) ∙ sym (append_assoc ys (record_text s) (load n (draw_record s).state))

  -- one record more
  pub written_more : (next : Option (List ℕ)) (piece : Text) (t : ℕ) → piece ≡ record_text s → t ≡ (draw_record s).state
      → Written held now whole m s → Appends now next piece → Written held next whole n t
  written_more next piece t f g (ys, w, p) q = (
    ys ++ record_text s,
    split ys w ∙ ap (λ k. (ys ++ record_text s) ++ load n k) (sym g),
    Appends-trans held now next _ _ p (subst (Appends now next) f q),
  )

  -- a record that is not written, or not whole
  pub written_short : (next : Option (List ℕ)) (piece : Text) → piece ≡ record_text s
      → Written held now whole m s → ((k : ℕ) × Appends now next (take k piece)) → (k : ℕ) × Appends held next (take k whole)
  written_short next piece f (ys, w, p) q =
      fails_same held next _ _ (sym (split ys w))
      (fails_before held next _ _ (fails_behind held now next ys _ p (fails_same now next _ _ f q)))
