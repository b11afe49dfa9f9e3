-- Document 02, Card 6: the words that C++17 keeps for itself, in the order of ISO/IEC 14882:2017 (N4659), [lex.key].
-- Assumes nothing.
use Rattle.std.specs.Prelude.{ℕ, Bool, true, false, List, [], ◌∷◌, ◌++◌, ◌==◌}
use Rattle.definitions.specs.Bytes.{Text, text, any, same}

-- a byte before the first word
abbrev pub onto : ℕ → List Text → List Text
onto x [] = (x ∷ []) ∷ []
onto x (w ∷ ws) = (x ∷ w) ∷ ws

-- the words of a text, parted by spaces
abbrev pub words : Text → List Text
words [] = []
words (x ∷ t) = elim (x == 32) [ true ↦ [] ∷ words t | false ↦ onto x (words t) ]

-- table 5: the 73 keywords
abbrev pub table5 : List Text
table5 =
    words (text "alignas alignof asm auto bool break case catch char char16_t char32_t class const constexpr const_cast")
    ++ (words (text "continue decltype default delete do double dynamic_cast else enum explicit export extern false float")
    ++ (words (text "for friend goto if inline int long mutable namespace new noexcept nullptr operator private protected")
    ++ (words (text "public register reinterpret_cast return short signed sizeof static static_assert static_cast struct")
    ++ (words (text "switch template this thread_local throw true try typedef typeid typename union unsigned using virtual")
    ++ words (text "void volatile wchar_t while")))))

-- table 6: the 11 alternative representations
abbrev pub table6 : List Text
table6 = words (text "and and_eq bitand bitor compl not not_eq or or_eq xor xor_eq")

unfoldable pub keywords : List Text
keywords = table5 ++ table6

-- exactly one of these words
unfoldable pub is_keyword : Text → Bool
is_keyword t = any (same t) keywords
