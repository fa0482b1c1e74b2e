-- The strings of a tree, front to back, and the entries of a book that a sheet names. Assumes nothing.
use Rattle.std.specs.Prelude.{ℕ}
use Rattle.std.proofs.Math.Option.{Option, none, some}
use mathlib.Core.List.{List, [], ◌∷◌, ◌++◌}
use Rattle.layout.specs.Tree.{PushValueOf, String, Null, Undefined, Register, Boolean, Float, Integer, Constant, FunctionParamOf, function_param, FlatOf, Small, GotoFrame, GetUrl, StoreRegister, ConstantPool, WaitForFrame, SetTarget, GotoLabel, WaitForFrame2, Push, GetUrl2, GotoFrame2, OwnerOf, With, DefineFunction, DefineFunction2, CatchTargetOf, Variable, ActionOf, flat, branch, owner, Try, ActionListOf, empty, more, ActionsOf, body, CatchOf, no_catch, catch, FinallyOf, no_finally, finally}
use Rattle.layout.specs.Read.{Text, plain, in_book, Words, Terms, deepest, Read, got, bad, read_main}
use Rattle.layout.specs.Cut.{Cut, main, uncut, cut}
use Rattle.layout.specs.Pack.{edition_terms}

-- ---- the strings of a tree, front to back

-- what the elements of a list hold, in order
unfoldable pub joined : {A B : Type 0} → (A → List B) → List A → List B
joined f [] = []
joined f (x ∷ xs) = f x ++ joined f xs

module _ {S : Type 0} where
  -- the strings of a push value
  unfoldable pub in_value : PushValueOf S → List S
  in_value (String s) = s ∷ []
  in_value Null = []
  in_value Undefined = []
  in_value (Register r) = []
  in_value (Boolean t) = []
  in_value (Float n) = []
  in_value (Integer n) = []
  in_value (Constant i) = []

  -- the strings of a parameter
  unfoldable pub in_param : FunctionParamOf S → List S
  in_param (function_param r s) = s ∷ []

  -- the strings of an action with no body and no label
  unfoldable pub in_flat : FlatOf S → List S
  in_flat (Small op) = []
  in_flat (GotoFrame n) = []
  in_flat (GetUrl u t) = u ∷ t ∷ []
  in_flat (StoreRegister r) = []
  in_flat (ConstantPool ss) = ss
  in_flat (WaitForFrame n k) = []
  in_flat (SetTarget s) = s ∷ []
  in_flat (GotoLabel s) = s ∷ []
  in_flat (WaitForFrame2 k) = []
  in_flat (Push vs) = joined in_value vs
  in_flat (GetUrl2 v t m) = []
  in_flat (GotoFrame2 n p) = []

  -- the strings of an action that owns one body, without those of the body
  unfoldable pub in_owner : OwnerOf S → List S
  in_owner With = []
  in_owner (DefineFunction s ps) = s ∷ ps
  in_owner (DefineFunction2 s ps r f) = s ∷ joined in_param ps

  -- the string of a catch's target, if it is a name
  unfoldable pub in_target : CatchTargetOf S → List S
  in_target (Variable s) = s ∷ []
  in_target (Register r) = []

  module _ {L : Type 0} where
    -- the name of a catch, which stands before a Try's bodies
    unfoldable pub in_name : CatchOf S L → List S
    in_name no_catch = []
    in_name (catch t b) = in_target t

    -- the strings of actions and bodies, those of the bodies in them too
    unfoldable mutual
      pub in_action : ActionOf S L → List S
      in_action (flat f) = in_flat f
      in_action (branch k l) = []
      in_action (owner o b) = in_owner o ++ in_body b
      in_action (Try b c f) = in_name c ++ (in_body b ++ (in_catch c ++ in_finally f))

      pub in_actions : ActionListOf S L → List S
      in_actions empty = []
      in_actions (more a xs) = in_action a ++ in_actions xs

      pub in_body : ActionsOf S L → List S
      in_body (body es xs) = in_actions xs

      pub in_catch : CatchOf S L → List S
      in_catch no_catch = []
      in_catch (catch t b) = in_body b

      pub in_finally : FinallyOf S L → List S
      in_finally no_finally = []
      in_finally (finally b) = in_body b

-- ---- the entries that a sheet names

-- the entry numbers among texts
unfoldable pub entry_numbers : List Text → List ℕ
entry_numbers [] = []
entry_numbers (plain s ∷ ts) = entry_numbers ts
entry_numbers (in_book i s ∷ ts) = i ∷ entry_numbers ts

-- the entry numbers in what was read; where reading met a fault, none
unfoldable pub named_read : Read (ActionsOf Text ℕ) → List ℕ
named_read (got t p) = entry_numbers (in_body t)
named_read (bad f s) = []

-- the entry numbers in a main body b, read by these terms, if there are any
unfoldable pub named_by : Option Terms → List ℕ → List ℕ
named_by (some k) b = named_read (read_main k b deepest)
named_by none b = []

-- the entry numbers in a sheet that is cut, where the book has these words
unfoldable pub named_cut : Cut → Words → List ℕ
named_cut (main i start b) words = named_by (edition_terms i (some words)) b
named_cut (uncut r) words = []

-- the entry numbers that the sheet s names, where the book has these words
unfoldable pub named : List ℕ → Words → List ℕ
named s words = named_cut (cut s) words
