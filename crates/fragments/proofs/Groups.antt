-- What fragments (specs/Groups) say. `Says s gs ds` is that the declarations `ds` of
-- the text `s` say what the fragments `gs` say where each is read alone. `FewerGroups` leaves out fields.
-- Assumes nothing.
use Rattle.std.specs.Prelude.{None}
use mathlib.Core.List.{List, [], ◌∷◌, ◌++◌}
use mathlib.Core.Path.{◌≡◌, refl}
use Rattle.definitions.specs.Bytes.{Text}
use Rattle.definitions.specs.Record.{part_of, on_read, field_at, head_at, decl_at, Declaration}
use Rattle.definitions.specs.declared.EndiannessValue.{EndiannessValue}
use Rattle.definitions.specs.declared.Arrays.{Arrays}
use Rattle.definitions.specs.declared.Trailing.{Trailing}
use Rattle.definitions.specs.declared.Raw.{Raw}
use Rattle.definitions.specs.declared.Products.{Products}
use Rattle.definitions.specs.declared.Head.{Head}
use Rattle.definitions.specs.declared.FieldDesc.{FieldDesc}
use Rattle.definitions.specs.declared.Field.{Field}
use Rattle.definitions.specs.declared.DeclDesc.{DeclDesc}
use Rattle.definitions.specs.declared.Decl.{Decl}
use Rattle.alike.proofs.Same.{SameField, SameDecl}
use Rattle.fewer.proofs.Fewer.{Sublist}
use Rattle.fragments.specs.Groups.{Group}

-- ---- what a fragment says where it is read alone; anything, where it cannot be read

unfoldable pub head_in : Text → Head
head_in u =
    on_read (head_at u 0)
    (record {
      options = record {
        endianness = EndiannessValue.LittleEndian;
        arrays = Arrays.Lite;
        trailing = Trailing.Plain;
        raw = Raw.Plain;
        products = Products.Plain;
      };
      target = part_of 0 0;
    })
    λ h p. h

unfoldable pub field_in : Text → Field
field_in f = on_read (field_at f 0) (record { key = 0; desc = FieldDesc.Body; cond = None }) λ x p. x

unfoldable pub decl_in : Text → Decl
decl_in g =
    on_read (decl_at g 0) (record { key = 0; id = part_of 0 0; bits = None; desc = DeclDesc.CustomField None }) λ d p. d

-- ---- declarations of a text that say the same

module _ (s : Text) where
  pub data SaysFields : List Text → List Field → Type 0 where
    done : SaysFields [] []
    more : {f : Text} {x : Field} {fs : List Text} {xs : List Field} → SameField f s (field_in f) x → SaysFields fs xs → SaysFields (f ∷ fs) (x ∷ xs)

  pub record SaysGroup (g : Group) (d : Declaration) : Type 0 where
    pub decl : SameDecl g.header s (decl_in g.header) d.decl
    pub bits : d.decl.bits ≡ (decl_in g.header).bits
    pub fields : SaysFields g.fields d.fields

  pub data Says : List Group → List Declaration → Type 0 where
    done : Says [] []
    more : {g : Group} {d : Declaration} {gs : List Group} {ds : List Declaration} → SaysGroup g d → Says gs ds → Says (g ∷ gs) (d ∷ ds)

-- ---- the same declarations, each with fewer fields or the same

pub data FewerGroups : List Group → List Group → Type 0 where
  done : FewerGroups [] []
  more : {g h : Group} {gs hs : List Group} → g.header ≡ h.header → Sublist g.fields h.fields → FewerGroups gs hs → FewerGroups (g ∷ gs) (h ∷ hs)

same-list : {A : Type 0} (xs : List A) → Sublist xs xs
same-list [] = Sublist.done
same-list (x ∷ xs) = Sublist.keep (same-list xs)

-- with declarations in front that keep all
pub fewer-behind : (types : List Group) {some all : List Group} → FewerGroups some all → FewerGroups (types ++ some) (types ++ all)
fewer-behind [] w = w
fewer-behind (g ∷ gs) w = FewerGroups.more refl (same-list g.fields) (fewer-behind gs w)
