-- `encode::write_head` meets its contract: each case is written as the action that it shows. Assumes nothing.
use Rattle.std.proofs.Common.{refl, sym}
use Rattle.layout.proofs.Lengths.{length_le16}
use Rattle.encode.proofs.Shows.{case_room, case_put}
use Rattle.encode.proofs.write_head.Goals as goal

pub write_small_action-requires : goal.write_small_action-requires
write_small_action-requires c = (case_room _ _ _ _ c.requires c.in-Small.is).1

pub write_measured_action-requires : goal.write_measured_action-requires
write_measured_action-requires c = (sym (length_le16 _), (case_room _ _ _ _ c.requires c.in-GotoFrame.is).1)

pub write_get_url-requires : goal.write_get_url-requires
write_get_url-requires c =
    let r = case_room _ _ _ _ c.requires c.in-GetUrl.is in
    (r.0.0, r.0.1, r.1)

pub write_measured_action-requires-in-StoreRegister : goal.write_measured_action-requires-in-StoreRegister
write_measured_action-requires-in-StoreRegister c = (refl, (case_room _ _ _ _ c.requires c.in-StoreRegister.is).1)

pub write_constant_pool-requires : goal.write_constant_pool-requires
write_constant_pool-requires c = (case_room _ _ _ _ c.requires c.in-ConstantPool.is).1

pub write_wait_for_frame-requires : goal.write_wait_for_frame-requires
write_wait_for_frame-requires c = (case_room _ _ _ _ c.requires c.in-WaitForFrame.is).1

pub write_string_action-requires : goal.write_string_action-requires
write_string_action-requires c = case_room _ _ _ _ c.requires c.in-SetTarget.is

pub write_string_action-requires-in-GotoLabel : goal.write_string_action-requires-in-GotoLabel
write_string_action-requires-in-GotoLabel c = case_room _ _ _ _ c.requires c.in-GotoLabel.is

pub write_measured_action-requires-in-WaitForFrame2 : goal.write_measured_action-requires-in-WaitForFrame2
write_measured_action-requires-in-WaitForFrame2 c = (refl, (case_room _ _ _ _ c.requires c.in-WaitForFrame2.is).1)

pub write_define_function_2-requires : goal.write_define_function_2-requires
write_define_function_2-requires c =
    let r = case_room _ _ _ _ c.requires c.in-DefineFunction2.is in
    (r.0.0, r.0.1, r.1)

pub write_try-requires : goal.write_try-requires
write_try-requires c = case_room _ _ _ _ c.requires c.in-Try.is

pub write_measured_action-requires-in-With : goal.write_measured_action-requires-in-With
write_measured_action-requires-in-With c = (sym (length_le16 0), (case_room _ _ _ _ c.requires c.in-With.is).1)

pub write_push-requires : goal.write_push-requires
write_push-requires c = (case_room _ _ _ _ c.requires c.in-Push.is).1

pub write_branch-requires : goal.write_branch-requires
write_branch-requires c =
    let r = case_room _ _ _ _ c.requires c.in-Jump.is in
    (r.0.0, r.0.1, r.1)

pub write_get_url_2-requires : goal.write_get_url_2-requires
write_get_url_2-requires c =
    let r = case_room _ _ _ _ c.requires c.in-GetUrl2.is in
    (r.0.0, r.0.1, r.1)

pub write_define_function-requires : goal.write_define_function-requires
write_define_function-requires c = case_room _ _ _ _ c.requires c.in-DefineFunction.is

pub write_branch-requires-in-If : goal.write_branch-requires-in-If
write_branch-requires-in-If c =
    let r = case_room _ _ _ _ c.requires c.in-If.is in
    (r.0.0, r.0.1, r.1)

pub write_goto_frame_2-requires : goal.write_goto_frame_2-requires
write_goto_frame_2-requires c = case_room _ _ _ _ c.requires c.in-GotoFrame2.is

pub returns-in-Small : goal.returns-in-Small
returns-in-Small c = case_put _ _ _ _ c.in-Small.is c.write_small_action.ensures

pub returns-in-GotoFrame : goal.returns-in-GotoFrame
returns-in-GotoFrame c = case_put _ _ _ _ c.in-GotoFrame.is c.write_measured_action.ensures

pub returns-in-GetUrl : goal.returns-in-GetUrl
returns-in-GetUrl c = case_put _ _ _ _ c.in-GetUrl.is c.write_get_url.ensures

pub returns-in-StoreRegister : goal.returns-in-StoreRegister
returns-in-StoreRegister c = case_put _ _ _ _ c.in-StoreRegister.is c.write_measured_action-in-StoreRegister.ensures

pub returns-in-ConstantPool : goal.returns-in-ConstantPool
returns-in-ConstantPool c = case_put _ _ _ _ c.in-ConstantPool.is c.write_constant_pool.ensures

pub returns-in-WaitForFrame : goal.returns-in-WaitForFrame
returns-in-WaitForFrame c = case_put _ _ _ _ c.in-WaitForFrame.is c.write_wait_for_frame.ensures

pub returns-in-SetTarget : goal.returns-in-SetTarget
returns-in-SetTarget c = case_put _ _ _ _ c.in-SetTarget.is c.write_string_action.ensures

pub returns-in-GotoLabel : goal.returns-in-GotoLabel
returns-in-GotoLabel c = case_put _ _ _ _ c.in-GotoLabel.is c.write_string_action-in-GotoLabel.ensures

pub returns-in-WaitForFrame2 : goal.returns-in-WaitForFrame2
returns-in-WaitForFrame2 c = case_put _ _ _ _ c.in-WaitForFrame2.is c.write_measured_action-in-WaitForFrame2.ensures

pub returns-in-DefineFunction2 : goal.returns-in-DefineFunction2
returns-in-DefineFunction2 c = case_put _ _ _ _ c.in-DefineFunction2.is c.write_define_function_2.ensures

pub returns-in-Try : goal.returns-in-Try
returns-in-Try c = case_put _ _ _ _ c.in-Try.is c.write_try.ensures

pub returns-in-With : goal.returns-in-With
returns-in-With c = case_put _ _ _ _ c.in-With.is c.write_measured_action-in-With.ensures

pub returns-in-Push : goal.returns-in-Push
returns-in-Push c = case_put _ _ _ _ c.in-Push.is c.write_push.ensures

pub returns-in-Jump : goal.returns-in-Jump
returns-in-Jump c = case_put _ _ _ _ c.in-Jump.is c.write_branch.ensures

pub returns-in-GetUrl2 : goal.returns-in-GetUrl2
returns-in-GetUrl2 c = case_put _ _ _ _ c.in-GetUrl2.is c.write_get_url_2.ensures

pub returns-in-DefineFunction : goal.returns-in-DefineFunction
returns-in-DefineFunction c = case_put _ _ _ _ c.in-DefineFunction.is c.write_define_function.ensures

pub returns-in-If : goal.returns-in-If
returns-in-If c = case_put _ _ _ _ c.in-If.is c.write_branch-in-If.ensures

pub returns-in-GotoFrame2 : goal.returns-in-GotoFrame2
returns-in-GotoFrame2 c = case_put _ _ _ _ c.in-GotoFrame2.is c.write_goto_frame_2.ensures
