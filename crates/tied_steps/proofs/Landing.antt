-- Where branches land, said of the bytes of a block alone, and blocks in which one does not. Assumes nothing.
use Rattle.std.specs.Prelude.{◌≡◌, refl, ℕ, ◌+◌, [], ◌++◌, length, pos, negsuc}
use Rattle.std.proofs.Common.{ap, inl, arith, length-append}
use Rattle.layout.specs.Lists.{pick}
use Rattle.layout.specs.Stepped.{long, nothing, end_step}
use Rattle.layout.proofs.Stepped.{end_step_lem, one_step, step_length}
use Rattle.laws.specs.Demands.{signed16}
use Rattle.tied_steps.specs.Places.{StepAt}
use Rattle.tied_steps.proofs.Places.{none_within}
use Rattle.tied_steps.specs.Landing.{AllLand, LandsSomewhere, jump_by}

jump_first : (low high : ℕ) → StepAt (jump_by low high ++ end_step) 0 0 (jump_by low high)
jump_first low high =
    record { before = []; after = end_step; left = 1; are_before = nothing; is_step = long {op = 0x99} (omega arith) refl; are_after = one_step end_step_lem; is_whole = refl; is_place = refl }

jump_lands : (low high : ℕ) → AllLand (jump_by low high ++ end_step) → LandsSomewhere (jump_by low high ++ end_step) 0 (jump_by low high)
jump_lands low high h = h 0 0 (jump_by low high) (jump_first low high) (inl refl)

pos_is : {m n : ℕ} → pos m ≡ pos n → m ≡ n
pos_is e = cc

-- by -4, into its own payload
pub into_a_payload : AllLand (jump_by 0xFC 0xFF ++ end_step) → ⊥
unfolding signed16 pick
into_a_payload h =
    let l = jump_lands 0xFC 0xFF h in
    let i : pos 1 ≡ pos l.to = l.lands.is_there in
    let e : 1 ≡ l.to = pos_is i in
    omega (arith, e, none_within (jump_first 0xFC 0xFF) l.lands.begins.stands (omega (arith, e)))

-- by 1, behind the End
pub behind_the_end : AllLand (jump_by 1 0 ++ end_step) → ⊥
unfolding signed16 pick
behind_the_end h =
    let l = jump_lands 1 0 h in
    let i : pos 6 ≡ pos l.to = l.lands.is_there in
    let e : 6 ≡ l.to = pos_is i in
    let b = l.lands.begins in
    let s = b.stands in
    omega (arith, e, s.is_place, ap length s.is_whole, length-append s.before (b.x ++ s.after), length-append b.x s.after, step_length s.is_step)

-- by -6, before the first byte
pub before_the_start : AllLand (jump_by 0xFA 0xFF ++ end_step) → ⊥
unfolding signed16 pick
before_the_start h =
    let l = jump_lands 0xFA 0xFF h in
    let i : negsuc 0 ≡ pos l.to = l.lands.is_there in
    let z : ◌≡◌ {A = ℕ} 0 1 = cc in
    omega (arith, z)
