-- Bodies that are written behind an action's payload, and the lengths that are patched in it. Assumes nothing.
use mathlib.Core.Path.{◌≡◌, refl, sym, ap, ap₂, ◌∙◌}
use Prim.Native.Nat.{ℕ, ◌+◌, ◌-◌, ◌≤◌}
use native.Mathlib.Omega.{arith}
use mathlib.Core.Option.{Option, none, some}
use mathlib.Core.List.{List, [], ◌∷◌, ◌++◌, append_assoc, append-nil}
use lib.ListN.{length, length-append}
use lib.Seq.{sets}
use Rattle.layout.specs.Numbers.{le16}
use Rattle.layout.specs.OpCode.{OpCode, byte}
use Rattle.layout.specs.Tree.{Owner, OwnerOf, ActionOf, ActionsOf, flat, branch, owner, Try, Catch, CatchOf, no_catch, catch, FinallyOf, no_finally, finally}
use Rattle.layout.specs.Read.{Text}
use Rattle.layout.specs.Strings.{map_action, map_body, map_catch, map_finally, map_owner}
use Rattle.layout.specs.Payload.{owner_op_code, owner_fields, owner_payload, branch_op_code, catch_shape, finally_shape, catch_name, try_payload, framed}
use Rattle.layout.specs.Write.{bytes, catch_bytes, finally_bytes, size, catch_size, finally_size}
use Rattle.layout.specs.Lengths.{owner_length}
use Rattle.layout.proofs.Lengths.{length_le16, length-owner_fields, length-owner_payload, length-try_payload, framed_long, length_framed, branch_long, owner_long, try_long, length_body}
use Rattle.layout.specs.Pack.{spelling}
use Rattle.encode_flat.specs.Branches.{table_bits}
use Rattle.encode.specs.Heads.{head_bytes, head_of}
use Rattle.laws.specs.Resolved.{body_length, action_size}
use Rattle.write.specs.Bodies.{Tried, length_if, body_of, action_of, closed, closed_if, closed_tried}
use Rattle.write.proofs.Patches.{patched}

-- The bytes of a body that may be absent.
abbrev bytes_if : List ℕ → Option (ActionsOf Text ℕ) → ℕ → List ℕ
bytes_if tab none p = []
bytes_if tab (some x) p = body_of tab x p

-- A body's length is that of its bytes.
length_body_of : (tab : List ℕ) (x : ActionsOf Text ℕ) (p : ℕ) → length (body_of tab x p) ≡ body_length x
unfolding body_of
length_body_of tab x p = length_body (table_bits tab) (map_body spelling x) p

-- The same of one that may be absent.
length-bytes_if : (tab : List ℕ) (y : Option (ActionsOf Text ℕ)) (p : ℕ) → length (bytes_if tab y p) ≡ length_if y
unfolding length_if
length-bytes_if tab none p = refl
length-bytes_if tab (some x) p = length_body_of tab x p

-- A run with a zero length in it, then a body behind the run and its length patched in: one run. An absent body changes nothing.
closed_if_lem : (tab l a c m : List ℕ) (y : Option (ActionsOf Text ℕ)) (i pos at : ℕ) → m ≡ sets l i (a ++ (le16 0 ++ c)) → pos ≡ i + length (a ++ (le16 0 ++ c)) → at ≡ i + length a
    → closed_if tab m pos at y ≡ sets l i (a ++ (le16 (length_if y) ++ (c ++ bytes_if tab y pos)))
unfolding closed_if closed length_if
closed_if_lem tab l a c m none i pos at e p q = rw append-nil e
closed_if_lem tab l a c m (some x) i pos at e p q =
    rw (e, q, ap (λ (n : ℕ). sets (sets l i (a ++ (le16 0 ++ c))) n (body_of tab x pos)) p)
    (patched l a (le16 0) (le16 (body_length x)) c (body_of tab x pos) i (length_le16 0 ∙ sym (length_le16 (body_length x))))

-- ---- an action that owns a body

-- What stands before the body's length.
owner_front : Owner → List ℕ
owner_front o = byte (owner_op_code o) ∷ (le16 (owner_length o) ++ owner_fields o)

-- With the length behind it that is the header and the payload.
owner_framed : (o : Owner) (n : ℕ) → framed (owner_op_code o) (owner_payload o n) ≡ owner_front o ++ (le16 n ++ [])
unfolding owner_front le16
owner_framed o n = framed_long (owner_op_code o) (owner_payload o n) (owner_long o) ∙ rw (length-owner_payload o n) (unfold owner_payload in refl)

-- Its length: the header and the fields.
length_owner_front : (o : Owner) → length (owner_front o) ≡ 3 + length (owner_fields o)
unfolding owner_front le16
length_owner_front o = omega arith

-- Its head has five bytes besides the fields.
pub length_owner : (tab : List ℕ) (o : OwnerOf Text) (x : ActionsOf Text ℕ) (i : ℕ) → length (head_of tab (owner o x) i) ≡ 5 + length (owner_fields (map_owner spelling o))
unfolding head_of head_bytes map_action
length_owner tab o x i =
    omega (
      arith,
      length_framed (owner_op_code (map_owner spelling o)) (owner_payload (map_owner spelling o) 0) (owner_long (map_owner spelling o)),
      length-owner_payload (map_owner spelling o) 0,
      length-owner_fields (map_owner spelling o),
    )

module _ (tab l m : List ℕ) (o : OwnerOf Text) (x : ActionsOf Text ℕ) (i end : ℕ) where
  -- Its head, then its body with the length two bytes before it: the action's bytes.
  pub owner_closed : m ≡ sets l i (head_of tab (owner o x) i) → end ≡ i + length (head_of tab (owner o x) i) → closed tab m end (end - 2) x ≡ sets l i (action_of tab (owner o x) i)
  unfolding head_of head_bytes map_action action_of bytes body_of closed_if length_if le16
  owner_closed e p =
      let w : Owner = map_owner spelling o in
      let q : end ≡ i + (5 + length (owner_fields w)) = omega (arith, length_owner tab o x i, p) in
      closed_if_lem tab l (owner_front w) [] m (some x) i end (end - 2) (e ∙ ap (λ (r : List ℕ). sets l i r) (owner_framed w 0)) (p ∙ ap (λ (r : List ℕ). i + length r) (owner_framed w 0)) (omega (arith, length_owner_front w))
      ∙ ap (λ (r : List ℕ). sets l i r) (sym (append_assoc (owner_front w) (le16 (body_length x)) (body_of tab x end)) ∙ ap₂ (λ (r s : List ℕ). r ++ s) (sym (owner_framed w (body_length x))) (ap (λ (n : ℕ). body_of tab x n) q))

-- ---- a Try

-- The body of a catch, if it is there.
abbrev pub catch_body : CatchOf Text ℕ → Option (ActionsOf Text ℕ)
catch_body no_catch = none
catch_body (catch t x) = some x

-- The body of a finally, if it is there.
abbrev pub finally_body : FinallyOf Text ℕ → Option (ActionsOf Text ℕ)
finally_body no_finally = none
finally_body (finally x) = some x

-- The three bodies of a Try.
abbrev pub tried_of : ActionsOf Text ℕ → CatchOf Text ℕ → FinallyOf Text ℕ → Tried
tried_of x c f = record { first = x; second = catch_body c; third = finally_body f }

-- The length of a catch is that of its body.
pub catch_length : (c : CatchOf Text ℕ) → length_if (catch_body c) ≡ catch_size (map_catch spelling c)
unfolding length_if map_catch catch_size
catch_length no_catch = refl
catch_length (catch t x) = refl

-- So is that of a finally.
pub finally_length : (f : FinallyOf Text ℕ) → length_if (finally_body f) ≡ finally_size (map_finally spelling f)
unfolding length_if map_finally finally_size
finally_length no_finally = refl
finally_length (finally x) = refl

-- The bytes of a catch are those of its body.
catch_bytes_lem : (tab : List ℕ) (c : CatchOf Text ℕ) (p : ℕ) → bytes_if tab (catch_body c) p ≡ catch_bytes (table_bits tab) (map_catch spelling c) p
unfolding body_of map_catch catch_bytes
catch_bytes_lem tab no_catch p = refl
catch_bytes_lem tab (catch t x) p = refl

-- So are those of a finally.
finally_bytes_lem : (tab : List ℕ) (f : FinallyOf Text ℕ) (p : ℕ) → bytes_if tab (finally_body f) p ≡ finally_bytes (table_bits tab) (map_finally spelling f) p
unfolding body_of map_finally finally_bytes
finally_bytes_lem tab no_finally p = refl
finally_bytes_lem tab (finally x) p = refl

-- What stands before the three lengths.
try_front : ℕ → List ℕ → List ℕ
try_front shape name = byte OpCode.Try ∷ (le16 (7 + length name) ++ shape ∷ [])

-- With the lengths and the name behind it that is the header and the payload.
try_framed : (shape i j k : ℕ) (name : List ℕ) → framed OpCode.Try (try_payload shape i j k name) ≡ try_front shape name ++ (le16 i ++ (le16 j ++ (le16 k ++ name)))
unfolding try_front le16
try_framed shape i j k name =
    framed_long OpCode.Try (try_payload shape i j k name) try_long ∙ rw (length-try_payload shape i j k name) (unfold try_payload in refl)

module _ (tab l m name : List ℕ) (shape : ℕ) (t : Tried) (i end : ℕ) where
  -- A Try's payload with three zero lengths, then its bodies with their lengths: one run.
  tried_closed : m ≡ sets l i (try_front shape name ++ (le16 0 ++ (le16 0 ++ (le16 0 ++ name)))) → end ≡ i + (10 + length name)
      → closed_tried tab m end (i + 4) t
      ≡ sets l i (try_front shape name ++ (le16 (body_length t.first) ++ (le16 (length_if t.second) ++ (le16 (length_if t.third)
      ++ (((name ++ body_of tab t.first end) ++ bytes_if tab t.second (end + body_length t.first))
      ++ bytes_if tab t.third (end + body_length t.first + length_if t.second))))))
  unfolding try_front le16 closed_tried closed_if length_if
  tried_closed e p =
      let n₁ : ℕ = body_length t.first in
      let n₂ : ℕ = length_if t.second in
      let a : List ℕ = try_front shape name in
      let x₁ : List ℕ = body_of tab t.first end in
      let x₂ : List ℕ = bytes_if tab t.second (end + n₁) in
      let l₁ : length x₁ ≡ n₁ = length_body_of tab t.first end in
      let l₂ : length x₂ ≡ n₂ = length-bytes_if tab t.second (end + n₁) in
      let one = closed_if_lem tab l a (le16 0 ++ (le16 0 ++ name)) m (some t.first) i end (i + 4) e (omega arith) (omega arith) in
      let two = closed_if_lem tab l (a ++ le16 n₁) ((le16 0 ++ name) ++ x₁) (closed tab m end (i + 4) t.first) t.second i (end + n₁) (i + 4 + 2) one (omega (arith, length-append name x₁)) (omega arith) in
      closed_if_lem tab l (a ++ (le16 n₁ ++ le16 n₂)) ((name ++ x₁) ++ x₂) (closed_if tab (closed tab m end (i + 4) t.first) (end + n₁) (i + 4 + 2) t.second) t.third i (end + n₁ + n₂) (i + 4 + 4) two (omega (arith, length-append name x₁, length-append (name ++ x₁) x₂)) (omega arith)

-- Two ways to put the parts of a Try together.
joined : (a b c d n x y z : List ℕ) → a ++ (b ++ (c ++ (d ++ (((n ++ x) ++ y) ++ z)))) ≡ (a ++ (b ++ (c ++ (d ++ n)))) ++ (x ++ (y ++ z))
joined a b c d n x y z = simp append_assoc

-- A Try's head has ten bytes besides the name.
pub length_try : (tab : List ℕ) (x : ActionsOf Text ℕ) (c : CatchOf Text ℕ) (f : FinallyOf Text ℕ) (i : ℕ) → length (head_of tab (Try x c f) i) ≡ 10 + length (catch_name (map_catch spelling c))
unfolding head_of head_bytes map_action
length_try tab x c f i =
    length_framed OpCode.Try _ try_long
    ∙ ap (λ (n : ℕ). 3 + n) (length-try_payload (catch_shape (map_catch spelling c) + finally_shape (map_finally spelling f)) 0 0 0 (catch_name (map_catch spelling c)))
    ∙ omega arith

module _ (tab l m : List ℕ) (x : ActionsOf Text ℕ) (c : CatchOf Text ℕ) (f : FinallyOf Text ℕ) (i end : ℕ) where
  -- Its head, then its bodies with their lengths from four bytes after its start on: the action's bytes.
  pub try_closed : m ≡ sets l i (head_of tab (Try x c f) i) → end ≡ i + length (head_of tab (Try x c f) i) → closed_tried tab m end (i + 4) (tried_of x c f) ≡ sets l i (action_of tab (Try x c f) i)
  unfolding head_of head_bytes map_action action_of bytes body_of
  try_closed e p =
      let c' : Catch = map_catch spelling c in
      let name : List ℕ = catch_name c' in
      let shape : ℕ = catch_shape c' + finally_shape (map_finally spelling f) in
      let q : end ≡ i + (10 + length name) = omega (arith, length_try tab x c f i, p) in
      let head : try_front shape name ++ (le16 (body_length x) ++ (le16 (length_if (catch_body c)) ++ (le16 (length_if (finally_body f)) ++ name)))
      ≡ framed OpCode.Try (try_payload shape (body_length x) (catch_size c') (finally_size (map_finally spelling f)) name) =
      rw (catch_length c, finally_length f) (sym (try_framed shape (body_length x) (catch_size c') (finally_size (map_finally spelling f)) name)) in
      let second : end + body_length x ≡ i + (10 + length name) + body_length x = omega (arith, q) in
      let third : end + body_length x + length_if (catch_body c) ≡ i + (10 + length name) + (body_length x + catch_size c') = omega (arith, q, catch_length c) in
      tried_closed tab l m name shape (tried_of x c f) i end (e ∙ ap (λ (r : List ℕ). sets l i r) (try_framed shape 0 0 0 name)) q
      ∙ ap (λ (r : List ℕ). sets l i r)
      (joined (try_front shape name) (le16 (body_length x)) (le16 (length_if (catch_body c))) (le16 (length_if (finally_body f))) name (body_of tab x end)
      (bytes_if tab (catch_body c) (end + body_length x)) (bytes_if tab (finally_body f) (end + body_length x + length_if (catch_body c)))
      ∙ ap₂ (λ (r s : List ℕ). r ++ s)
      head
      (ap₂ (λ (r s : List ℕ). r ++ s) (ap (λ (n : ℕ). body_of tab x n) q)
      (ap₂ (λ (r s : List ℕ). r ++ s)
      (catch_bytes_lem tab c (end + body_length x) ∙ ap (λ (n : ℕ). catch_bytes (table_bits tab) c' n) second)
      (finally_bytes_lem tab f (end + body_length x + length_if (catch_body c))
      ∙ ap (λ (n : ℕ). finally_bytes (table_bits tab) (map_finally spelling f) n) third))))

-- ---- every head

-- A head is no longer than its action.
pub head_most : (tab : List ℕ) (x : ActionOf Text ℕ) (i : ℕ) → length (head_of tab x i) ≤ action_size x
unfolding head_of head_bytes map_action size
head_most tab (flat f) i = omega arith
head_most tab (branch k l) i = omega (arith, length_framed (branch_op_code k) (le16 (table_bits tab l (i + 5))) (branch_long k), length_le16 (table_bits tab l (i + 5)))
head_most tab (owner o x) i = omega (arith, length_owner tab o x i)
head_most tab (Try x c f) i = omega (arith, length_try tab x c f i)
