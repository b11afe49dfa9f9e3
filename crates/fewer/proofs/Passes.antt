-- To be read first: where the computed test `sound` (Sound) holds of a catalogue with the types `ps` and the frames `qs`, its declarations with fewer
-- fields in the frames, at most 64 in each, pass refusals 16, 3 to 9 and 17 under every head whose target is one of the packets and structs.
-- Assumes nothing.
use Rattle.std.specs.Prelude.{Ok}
use Rattle.definitions.specs.Refusals.{Verdict, declarations_names, any_keyword, duplicate_name, unknown_name, is_frame, out_of_range, large, ragged, refuse_if, verdict}
use mathlib.Core.Path.{◌≡◌, refl, ◌∙◌}
use mathlib.Core.Bool.{Bool, true, false, not, ◌&&◌}
use mathlib.Core.List.{List, [], ◌∷◌, ◌++◌}
use Prim.Native.Nat.{◌+◌, ◌*◌, ◌^◌, ◌≤◌}
use native.Mathlib.Omega.{arith}
use lib.Dec.{ltb}
use lib.ListN.{length, length-append}
use borrow.Author.Tests.{ltb-false}
use Rattle.definitions.specs.Bytes.{Text, any, part}
use Rattle.definitions.specs.Keywords.{is_keyword}
use Rattle.definitions.specs.Record.{Declaration}
use Rattle.definitions.specs.Sizes.{Row, same_name, annotate_from, new_schema}
use Rattle.definitions.specs.declared.Head.{Head}
use Rattle.definitions.specs.declared.Refusal.{Refusal}
use Rattle.lengths.proofs.Booleans.{impossible}
use Rattle.fewer.proofs.Fewer.{FewerFields}
use Rattle.fewer.specs.Sound.{crowded, stated, wide, stray_in, rows_of, faults, sound}
use Rattle.fewer.proofs.Tests.{none-append, none-back, none-sublist, fewer-append, fewer-length, none-fewer}
use Rattle.fewer.proofs.Kept.{wrong, no-keyword, not-many, duplicate-name, none-unknown, in-range, not-misstated, has-target}
use Rattle.fewer.proofs.Rows.{annotate-append, frames-whole}
use Rattle.fewer.proofs.Widths.{not_wide, frames_small}

-- ---- what `sound` says, part by part

pub record Faultless (t : Text) (ps qs : List Declaration) : Type 0 where
  pub names : any_keyword t (declarations_names (ps ++ qs)) ≡ false
  pub count : ltb 32 (length (ps ++ qs)) ≡ false
  pub fields : any crowded ps ≡ false
  pub distinct : duplicate_name t (ps ++ qs) ≡ false
  pub known : unknown_name t (ps ++ qs) ≡ false
  pub numbers : out_of_range (ps ++ qs) ≡ false
  pub small : large (new_schema t ps) ≡ false
  pub room : any wide (rows_of (new_schema t ps)) ≡ false
  pub even : ragged t (new_schema t ps) ≡ false
  pub frames : any (stray_in t (rows_of (new_schema t ps))) qs ≡ false
  pub unstated : any stated (ps ++ qs) ≡ false

abbrev Unmet : List Bool → Type 0
Unmet [] = Unit {0}
Unmet (b ∷ bs) = (b ≡ false) × Unmet bs

unmet : (bs : List Bool) → not (any (λ (b : Bool). b) bs) ≡ true → Unmet bs
unmet [] e = tt
unmet (true ∷ bs) e = impossible (cc)
unmet (false ∷ bs) e = (refl, unmet bs e)

part-by-part : (t : Text) (ps qs : List Declaration) → Unmet (faults t ps qs) → Faultless t ps qs
part-by-part t ps qs (a, (b, (c, (d, (e, (f, (g, (h, (i, (j, (k, u))))))))))) =
    record {
      names = a;
      count = b;
      fields = c;
      distinct = d;
      known = e;
      numbers = f;
      small = g;
      room = h;
      even = i;
      frames = j;
      unstated = k;
    }

pub is-sound : (t : Text) (ps qs : List Declaration) → sound t ps qs ≡ true → Faultless t ps qs
unfolding sound
is-sound t ps qs e = part-by-part t ps qs (unmet (faults t ps qs) e)

-- ---- the verdict

passed : (b : Bool) (why : Refusal) (v : Verdict) → b ≡ false → v ≡ (Ok tt) → refuse_if b why v ≡ (Ok tt)
passed true why v e h = impossible (cc)
passed false why v e h = h

module _ (t : Text) (ps qs qs' : List Declaration) (s : Faultless t ps qs) (fewer : FewerFields qs' qs) where
  -- the rows of the types
  abbrev types : List Row
  types = rows_of (new_schema t ps)

  all-fewer : FewerFields (ps ++ qs') (ps ++ qs)
  all-fewer = fewer-append ps fewer

  frames-fewer : any (stray_in t types) qs' ≡ false
  frames-fewer = none-fewer (stray_in t types) (stray_in t types) (λ d e q r z. none-sublist _ r z) fewer s.frames

  split : new_schema t (ps ++ qs') ≡ new_schema t ps ++ annotate_from t types qs'
  split = annotate-append t [] ps qs'

  none-large : any crowded qs' ≡ false → large (new_schema t (ps ++ qs')) ≡ false
  unfolding large out_of_range
  none-large few =
      let n : 2 ^ 29 + 2 ^ 25 * length qs' ≤ 2 ^ 30 + 2 ^ 29 =
      omega (arith, fewer-length fewer, length-append ps qs, ltb-false 32 (length (ps ++ qs)) s.count) in
      rw split
      (none-append _ (new_schema t ps) (annotate_from t types qs') s.small
      (frames_small t types (2 ^ 29) types (λ name e. refl) (not_wide types s.room) qs' n frames-fewer few
      (none-back wrong ps qs' (in-range t all-fewer s.numbers))))

  none-ragged : ragged t (new_schema t (ps ++ qs')) ≡ false
  unfolding ragged
  none-ragged =
      rw split
      (none-append _ (new_schema t ps) (annotate_from t types qs') s.even (frames-whole t types types (λ name e. refl) qs' frames-fewer))

  none-stated : any stated (ps ++ qs') ≡ false
  none-stated = none-fewer stated stated (λ d e q r z. rw q z) all-fewer s.unstated

  pub sound-passes : (k : Head) → any crowded qs' ≡ false → is_keyword (part t k.target) ≡ false
      → any (λ (d : Declaration). same_name t d.decl.id k.target && is_frame d.decl.desc) (ps ++ qs) ≡ true
      → verdict t k (ps ++ qs') (new_schema t (ps ++ qs')) ≡ (Ok tt)
  unfolding verdict
  sound-passes k few word target =
      passed _ _ _ (no-keyword t k all-fewer word s.names)
      (passed _ _ _ (not-many t ps fewer s.count s.fields few)
      (passed _ _ _ (duplicate-name t all-fewer ∙ s.distinct)
      (passed _ _ _ (none-unknown t [] [] FewerFields.done all-fewer s.known)
      (passed _ _ _ (in-range t all-fewer s.numbers)
      (passed _ _ _ (none-large few)
      (passed _ _ _ none-ragged
      (passed _ _ _ (not-misstated t [] (ps ++ qs') none-stated) (passed _ _ _ (has-target t k [] all-fewer target) refl))))))))

pub passes : (t : Text) (k : Head) (ps qs qs' : List Declaration) → sound t ps qs ≡ true → FewerFields qs' qs
    -- at most 64 fields in each
    → any (λ (d : Declaration). ltb 64 (length d.fields)) qs' ≡ false
    -- the target's name is no keyword, and one of the packets and structs
    → is_keyword (part t k.target) ≡ false
    → any (λ (d : Declaration). same_name t d.decl.id k.target && is_frame d.decl.desc) (ps ++ qs) ≡ true
    → verdict t k (ps ++ qs') (new_schema t (ps ++ qs')) ≡ (Ok tt)
passes t k ps qs qs' e fewer few word target = sound-passes t ps qs qs' (is-sound t ps qs e) fewer k few word target
