-- The contents and the groups of optional fields, as data (RULES 2.3, 2.4).
use Rattle.std.specs.Prelude.{ℕ, Bool, true, false, not, ◌&&◌, ◌||◌, List, [], ◌∷◌, eqb, None, Option, Some}
use Rattle.cells.specs.Bytes.{pick, any}
use Rattle.signs.specs.Class.{barred}
use Rattle.rules.specs.Rule.{keeps}
use Rattle.signs.specs.declared.Class.TheVariants.{Any, Digit, Capital}
use Rattle.rules.specs.declared.rule.Texts.TheVariants.{HoldMark, PartTax, YesOnly, YesOrU, Medium}
use Rattle.rules.specs.declared.rule.Rule.{Rule}
use Rattle.rules.specs.declared.rule.Rule.TheVariants.{Free, Of, OneOf, DayCount, Date}
use Rattle.record.specs.declared.layout.Kind.{Kind}
use Rattle.record.specs.declared.layout.Kind.TheVariants.{Order, Goods, Closing, Report}

-- a row of the table: IDs and the rule of their contents
infix 70 ◌have◌
pub record Listed : Type 0 where
  pub ids : List ℕ
  pub rule : Rule

abbrev pub ◌have◌ : List ℕ → Rule → Listed
is have r = record { ids = is; rule = r }

unfoldable pub contents : List Listed
contents =
    (1001 ∷ 1003 ∷ 1101 ∷ []) have Of Any 1 35
    ∷ (1005 ∷ 1007 ∷ 1013 ∷ 1018 ∷ 1030 ∷ 1102 ∷ 1108 ∷ 1114 ∷ 1116 ∷ 1202 ∷ 1204 ∷ []) have Of Capital 2 2
    ∷ (1009 ∷ []) have Of Any 3 3
    ∷ (1017 ∷ []) have Of Any 1 39
    ∷ (9010 ∷ []) have Of Any 1 40
    ∷ (1019 ∷ []) have OneOf PartTax
    ∷ (1021 ∷ 1045 ∷ []) have OneOf HoldMark
    ∷ (1025 ∷ []) have Of Digit 5 8
    ∷ (1029 ∷ []) have Of Digit 5 15
    ∷ (1032 ∷ []) have Of Capital 3 3
    ∷ (1047 ∷ []) have OneOf YesOnly
    ∷ (9003 ∷ []) have OneOf YesOrU
    ∷ (1051 ∷ 1113 ∷ []) have Of Any 1 5
    ∷ (1107 ∷ 9007 ∷ []) have Of Digit 1 4
    ∷ (1115 ∷ []) have Of Any 1 10
    ∷ (1129 ∷ []) have Of Digit 1 6
    ∷ (1131 ∷ []) have Of Any 1 3
    ∷ (1151 ∷ []) have OneOf Medium
    ∷ (1201 ∷ []) have Date
    ∷ (1203 ∷ []) have DayCount
    ∷ (9001 ∷ []) have Of Any 1 1
    ∷ (9011 ∷ []) have Of Digit 1 14
    ∷ (9012 ∷ []) have Of Digit 13 13
    ∷ (9016 ∷ []) have Of Digit 1 4
    ∷ []

unfoldable pub is_in : ℕ → List ℕ → Bool
is_in n [] = false
is_in n (m ∷ ms) = eqb n m || is_in n ms

-- the rule of the first row that has the ID
unfoldable pub rule_in : ℕ → List Listed → Rule
rule_in id [] = Free
rule_in id (row ∷ rows) = pick (is_in id row.ids) row.rule (rule_in id rows)

-- the rule of an ID's content; an ID that no row has takes any content
unfoldable pub content_rule : ℕ → Rule
content_rule id = rule_in id contents

-- the fields of an order that hold no barred byte
unfoldable pub guarded_ids : List ℕ
guarded_ids = 1001 ∷ 1003 ∷ 1051 ∷ 9010 ∷ []

unfoldable pub guarded : Kind → ℕ → Bool
guarded Order id = is_in id guarded_ids
guarded Goods id = false
guarded Closing id = false
guarded Report id = false

-- the content of a field of a record of a kind is as the table has it
unfoldable pub content_kept : Kind → ℕ → List ℕ → Bool
content_kept k id c = not (guarded k id && any barred c) && keeps (content_rule id) [] c

-- the groups, each in its order (RULES 2.4)
unfoldable pub groups : List (List ℕ)
groups =
    (1017 ∷ 1018 ∷ [])
    ∷ (1029 ∷ 1030 ∷ 1032 ∷ [])
    ∷ (1101 ∷ 1102 ∷ [])
    ∷ (1107 ∷ 1108 ∷ [])
    ∷ (1113 ∷ 1114 ∷ [])
    ∷ (1115 ∷ 1116 ∷ [])
    ∷ (1201 ∷ 1202 ∷ [])
    ∷ (1203 ∷ 1204 ∷ [])
    ∷ []

-- the member that stands first, where there is one
unfoldable pub first_of : List ℕ → Option ℕ
first_of [] = None
first_of (m ∷ ms) = Some m

-- the member after an ID in its group, where there is one
unfoldable pub next_in : ℕ → List ℕ → Option ℕ
next_in id [] = None
next_in id (m ∷ ms) = pick (eqb id m) (first_of ms) (next_in id ms)

-- the member before an ID in its group, where earlier is what stands before the first
unfoldable pub previous_in : Option ℕ → ℕ → List ℕ → Option ℕ
previous_in earlier id [] = None
previous_in earlier id (m ∷ ms) = pick (eqb id m) earlier (previous_in (Some m) id ms)

-- the group that an ID is in, or none
unfoldable pub group_with : ℕ → List (List ℕ) → List ℕ
group_with id [] = []
group_with id (g ∷ gs) = pick (is_in id g) g (group_with id gs)

unfoldable pub next_member : ℕ → Option ℕ
next_member id = next_in id (group_with id groups)

unfoldable pub previous_member : ℕ → Option ℕ
previous_member id = previous_in None id (group_with id groups)

-- a neighbour is the member wanted, where one is
unfoldable pub is_wanted : Option ℕ → Option ℕ → Bool
is_wanted None neighbour = true
is_wanted (Some member) None = false
is_wanted (Some member) (Some id) = eqb member id

-- the members that belong beside an ID in its group stand beside it: before is the field before it, where there is one (RULES 2.4)
unfoldable pub group_kept : Option ℕ → ℕ → ℕ → Bool
group_kept before id after = is_wanted (next_member id) (Some after) && is_wanted (previous_member id) before
