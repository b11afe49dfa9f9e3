-- Bytes, texts and numbers written as texts (document 01, module 1). A text is the list of its bytes.
-- Assumes nothing.
use Rattle.std.specs.Prelude.{ℕ, zero, suc, ◌+◌, ◌-◌, ◌/◌, ◌%◌, Bool, true, false, ◌&&◌, ◌||◌, List, [], ◌∷◌, ◌++◌, take, drop, ◌==◌, nat_le, nat_lt}
use Rattle.std.specs.List.{list_any}
use Prim.Native.Char.{code}
use Prim.Native.String.{String}
use Rattle.definitions.specs.declared.Part.{Part}

-- a byte string
abbrev pub Text : Type 0
Text = List ℕ

-- the bytes of an ASCII text
abbrev pub text : String → Text
text String.[] = []
text (String.◌∷◌ c s) = code c ∷ text s

-- the one that a test picks
abbrev pub pick {ℓ} : {A : Type ℓ} → Bool → A → A → A
pick true a b = a
pick false a b = b

abbrev pub any : {A : Type 0} → (A → Bool) → List A → Bool
any = list_any

abbrev pub all {ℓ} : {A : Type ℓ} → (A → Bool) → List A → Bool
all f [] = true
all f (x ∷ xs) = f x && all f xs

abbrev pub same : Text → Text → Bool
same [] [] = true
same [] (y ∷ ys) = false
same (x ∷ xs) [] = false
same (x ∷ xs) (y ∷ ys) = x == y && same xs ys

-- the bytes of a part of the record
abbrev pub part : Text → Part → Text
part s p = take (p.end - p.start) (drop p.start s)

unfoldable pub is_digit : ℕ → Bool
is_digit b = nat_le 48 b && nat_le b 57

-- a letter, a digit or `_`
unfoldable pub is_word : ℕ → Bool
is_word b = is_digit b || (nat_le 65 b && nat_le b 90) || (nat_le 97 b && nat_le b 122) || b == 95

-- ---- numbers as texts

-- 0 to 9, then a to f
abbrev pub digit : ℕ → ℕ
digit n = pick (nat_lt n 10) (48 + n) (87 + n)

-- the digits of n in a base, the first one first, at most as many as the fuel
unfoldable pub digits_in : ℕ → ℕ → ℕ → Text
digits_in base zero n = []
digits_in base (suc f) n =
    elim (nat_lt n base) [ true ↦ digit n ∷ [] | false ↦ digits_in base f (n / base) ++ (digit (n % base) ∷ []) ]

-- a number below 2 ^ 64 has at most 64 digits
abbrev pub digits : ℕ → ℕ → Text
digits base n = digits_in base 64 n

-- `{}`
abbrev pub decimal : ℕ → Text
decimal n = digits 10 n

-- `{:#x}`
abbrev pub hexadecimal : ℕ → Text
hexadecimal n = text "0x" ++ digits 16 n
