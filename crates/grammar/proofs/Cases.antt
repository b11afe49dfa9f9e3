-- Computed tests of the definitions of document 02, Card 1, as one table checked by one fact: steps, choices, what is drawn, two records, and what inputs
-- ask for. What is expected was written by hand from the card, or printed by a program of its own.
-- Assumes nothing.
use Rattle.std.specs.Prelude.{Option, Some, None}
use mathlib.Core.Path.{◌≡◌, refl}
use mathlib.Core.Bool.{Bool, true, false, ◌&&◌}
use mathlib.Core.List.{List, [], ◌∷◌, ◌++◌}
use Prim.Native.Nat.{ℕ}
use Prim.Native.String.{String}
use lib.Dec.{eqb}
use Rattle.definitions.specs.Bytes.{Text, text, same, all, is_digit}
use Rattle.definitions.specs.Record.{digits_of, number_of}
use Rattle.grammar.specs.Choices.{Drawn, next, choice, draw_slots, draw_from}
use Rattle.grammar.specs.Families.{beacon, lamp, status, log, relay, meter, station, harbour, families}
use Rattle.grammar.specs.Load.{draw_record, load, asked_by}
use Rattle.grammar.specs.declared.Load.{Load}

-- what is computed, and what is expected
data Case : Type 0 where
  number : ℕ → ℕ → Case
  draws : Drawn → Text → ℕ → Case
  asks : Text → Option Load → Case

same_asked : Option Load → Option Load → Bool
same_asked (Some a) (Some b) = eqb a.start b.start && eqb a.count b.count
same_asked (Some a) None = false
same_asked None (Some b) = false
same_asked None None = true

right : Case → Bool
right (number n m) = eqb n m
right (draws d t s) = same d.drawn t && eqb d.state s
right (asks t a) = same_asked (asked_by t) a

loads : String → ℕ → ℕ → Case
loads input start count = asks (text input) (Some (record { start = start; count = count }))

nothing : String → Case
nothing input = asks (text input) None

-- a slot of the texts
slot : List String → List Text
slot [] = []
slot (x ∷ xs) = text x ∷ slot xs

-- a slot with nothing to choose, a slot of one possibility, and empty possibilities first and last
few : List (List Text)
few = slot ("a" ∷ "b" ∷ "c" ∷ []) ∷ slot ("" ∷ []) ∷ slot ("d" ∷ []) ∷ slot ("" ∷ "e" ∷ "fg" ∷ "" ∷ []) ∷ []

some : List (List (List Text))
some =
    (slot ("a" ∷ "b" ∷ []) ∷ [])
    ∷ (slot ("c" ∷ "d" ∷ []) ∷ slot ("e" ∷ "f" ∷ []) ∷ [])
    ∷ (slot ("" ∷ "g" ∷ []) ∷ slot ("h" ∷ []) ∷ [])
    ∷ []

-- the records that are drawn first from 1 and from 76
first : Text
first =
    (text "endian=little\ntarget=Beacon\narrays=full\n"
    ++ (text "decl=packet\nname=Beacon\nparent=-\n"
    ++ (text "field=fixed\nwidth=8\nvalue=165\nif=-\n"
    ++ (text "field=payload\nmod=-\nif=-\n"))))

second : Text
second =
    (text "endian=big\ntarget=Lamp\narrays=lite\n"
    ++ (text "decl=enum\nname=LampState\nwidth=4\nopen=0\ncomplete=0\n"
    ++ (text "decl=enum\nname=Colour\nwidth=3\nopen=1\ncomplete=0\n"
    ++ (text "decl=enum\nname=Phase\nwidth=2\nopen=0\ncomplete=1\n"
    ++ (text "decl=packet\nname=Lamp\nparent=-\n"
    ++ (text "field=fixed\nwidth=16\nvalue=43605\nif=-\n"
    ++ (text "field=typedef\nid=state\ntype=LampState\nif=-\n"
    ++ (text "field=typedef\nid=colour\ntype=Colour\nif=-\n"
    ++ (text "field=flag\nid=lit\nif=-\n"
    ++ (text "field=scalar\nid=amps\nwidth=40\nif=-\n"
    ++ (text "field=scalar\nid=delay\nwidth=16\nif=lit\nis=1\n"
    ++ (text "field=scalar\nid=crc\nwidth=16\nif=-\n"))))))))))))

-- two, from 110, each with its empty line
both : Text
both =
    text "endian=big\ntarget=Beacon\narrays=lite\ndecl=packet\nname=Beacon\nparent=-\nfield=flag\nid=lit\nif=-\n"
    ++ (text "field=flag\nid=on_mains\nif=-\nfield=reserved\nwidth=6\nif=-\nfield=scalar\nid=millivolts\nwidth=32\nif=-\n"
    ++ (text "field=scalar\nid=hours\nwidth=13\nif=-\nfield=reserved\nwidth=3\nif=-\n\n"
    ++ (text "endian=little\ntarget=Beacon\narrays=full\ndecl=packet\nname=Beacon\nparent=-\n"
    ++ (text "field=scalar\nid=kind\nwidth=8\nif=-\nfield=body\nif=-\n\n"))))

cases : List Case
cases =
    -- a step
    number (next 0) 1013904223
    ∷ number (next 1) 1015568748
    ∷ number (next 4294967295) 1012239698
    ∷ number (next 2863311530) 2444450305
    -- a choice: the top 16 bits, not the low ones
    ∷ number (choice 1015568748 3) 1
    ∷ number (choice 1015568748 8) 0
    ∷ number (choice 65535 5) 0
    ∷ number (choice 65536 5) 1
    ∷ number (choice 4294967295 7) 1
    -- what is drawn: four steps, also for the empty slot and the one of one possibility
    ∷ draws (draw_slots few 1) (text "bd") 3027450565
    ∷ draws (draw_slots few 2) (text "cde") 3186434646
    ∷ draws (draw_slots few 5) (text "adfg") 3663386889
    ∷ draws (draw_slots few 4294967295) (text "bd") 2709482403
    ∷ draws (draw_slots [] 7) [] 7
    -- a step for the family too
    ∷ draws (draw_from some 1) (text "ce") 2165703038
    ∷ draws (draw_from some 2) (text "h") 811535379
    ∷ draws (draw_from some 3) (text "de") 3752335016
    ∷ draws (draw_from some 5) (text "b") 3144284287
    -- records, and two with their empty lines
    ∷ draws (draw_record 1) first 70837908
    ∷ draws (draw_record 76) second 3364207080
    ∷ draws (record { drawn = load 2 110; state = 0 }) both 0
    ∷ draws (record { drawn = load 0 1; state = 0 }) [] 0
    -- inputs
    ∷ loads "1\n1000\n" 1 1000
    ∷ loads "0\n0\n" 0 0
    ∷ loads "4294967295\n65535\n" 4294967295 65535
    ∷ nothing ""
    ∷ nothing "1\n"
    ∷ nothing "1\n1"
    ∷ nothing "1\n1\n\n"
    ∷ nothing "1\n1\n1\n"
    ∷ nothing "01\n1\n"
    ∷ nothing "1\n01\n"
    ∷ nothing "+1\n1\n"
    ∷ nothing "-1\n1\n"
    ∷ nothing " 1\n1\n"
    ∷ nothing "\n1\n1\n"
    ∷ nothing "4294967296\n1\n"
    ∷ nothing "1\n65536\n"
    ∷ nothing "18446744073709551617\n1\n"
    ∷ nothing "1\n18446744073709551617\n"
    -- a carriage return
    ∷ asks (49 ∷ 13 ∷ 10 ∷ 49 ∷ 10 ∷ []) None
    ∷ []

-- one name that opens the families
unfoldable texts : ℕ
unfolding families beacon lamp status log relay meter station harbour
texts = 0

cases-right : all right cases ≡ true
unfolding is_digit digits_of number_of draw_slots draw_from load same_asked right loads nothing slot few some first second both cases texts
cases-right = refl
