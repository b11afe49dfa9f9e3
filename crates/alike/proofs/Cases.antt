-- Computed tests of what is left of a record: P1 of document 01 with and without its lines `raw` and `products`, and lines of other keys,
-- which stay.
-- Assumes nothing.
use mathlib.Core.Bool.{true}
use mathlib.Core.List.{List, [], ◌∷◌, ◌++◌}
use mathlib.Core.Path.{◌≡◌, refl}
use Prim.Native.String.{String}
use Rattle.definitions.specs.Bytes.{Text, text, same, all}
use Rattle.definitions.specs.Record.{key_of}
use Rattle.alike.specs.Without.{begins, sift, without_bits, without_raw, without_products}

-- P1 with these lines behind `arrays` and behind `parent`
one : String → String → Text
one head sizes =
    text "endian=little\ntarget=Lamp\narrays=lite\n"
    ++ (text head
    ++ (text "decl=packet\nname=Lamp\nparent=-\n"
    ++ (text sizes ++ text "field=scalar\nid=amps\nwidth=12\nif=-\nfield=reserved\nwidth=4\nif=-\nfield=payload\nmod=-\nif=-\n")))

-- without its line `raw`, and what is expected
plain : List (Text × Text)
plain =
    (one "" "", one "" "")
    ∷ (one "raw=numbered\n" "", one "" "")
    ∷ (one "raw=plain\n" "", one "" "")
    ∷ (one "trailing=padded\nraw=numbered\n" "bits=unknown\n", one "trailing=padded\n" "bits=unknown\n")
    ∷ (text "raw=a\nraw\nid=raw=\nraw=", text "raw\nid=raw=\n")
    ∷ []

-- without its line `products`
undivided : List (Text × Text)
undivided =
    (one "" "", one "" "")
    ∷ (one "products=divide\n" "", one "" "")
    ∷ (one "products=plain\n" "", one "" "")
    ∷ (one "trailing=padded\nraw=numbered\nproducts=divide\n" "bits=unknown\n", one "trailing=padded\nraw=numbered\n" "bits=unknown\n")
    ∷ (text "products=a\nproducts\nid=products=\nproducts=", text "products\nid=products=\n")
    ∷ []

-- without its lines `bits`
unstated : List (Text × Text)
unstated =
    (one "" "bits=unknown\n", one "" "")
    ∷ (one "raw=numbered\n" "bits=16\n", one "raw=numbered\n" "")
    ∷ []

plain-right : all (λ (c : Text × Text). same (without_raw c.0) c.1) plain ≡ true
unfolding key_of begins sift without_raw one plain
plain-right = refl

undivided-right : all (λ (c : Text × Text). same (without_products c.0) c.1) undivided ≡ true
unfolding key_of begins sift without_products one undivided
undivided-right = refl

unstated-right : all (λ (c : Text × Text). same (without_bits c.0) c.1) unstated ≡ true
unfolding key_of begins sift without_bits one unstated
unstated-right = refl
