-- By the key, under version 1.
use Rattle.fast_writing.proofs.Flattened.{same_writing, declare_flat, publish_flat, confirm_flat, subscribe_flat, deliver_flat, credit_flat, heartbeat_flat}
use Rattle.fast_writing.proofs.writing.write.Goals as goal

pub returns-in-1 : goal.returns-in-1
returns-in-1 c =
    let a = c.args in
    same_writing _ _ a.out.now c.declare_publisher.new.out c.declare_publisher.result (declare_flat a.slots.now a.src.now a.limit a.out.now c.if-slots-ne1.false c.in-1.is) c.declare_publisher.ensures

pub returns-in-2 : goal.returns-in-2
returns-in-2 c =
    let a = c.args in
    same_writing _ _ a.out.now c.publish.new.out c.publish.result (publish_flat a.slots.now a.src.now a.limit a.out.now c.if-slots-ne1.false c.in-2.is) c.publish.ensures

pub returns-in-3 : goal.returns-in-3
returns-in-3 c =
    let a = c.args in
    same_writing _ _ a.out.now c.publish_confirm.new.out c.publish_confirm.result (confirm_flat a.slots.now a.src.now a.limit a.out.now c.if-slots-ne1.false c.in-3.is) c.publish_confirm.ensures

pub returns-in-7 : goal.returns-in-7
returns-in-7 c =
    let a = c.args in
    same_writing _ _ a.out.now c.subscribe.new.out c.subscribe.result (subscribe_flat a.slots.now a.src.now a.limit a.out.now c.if-slots-ne1.false c.in-7.is) c.subscribe.ensures

pub returns-in-8 : goal.returns-in-8
returns-in-8 c =
    let a = c.args in
    same_writing _ _ a.out.now c.deliver.new.out c.deliver.result (deliver_flat a.slots.now a.src.now a.limit a.out.now c.if-slots-ne1.false c.in-8.is) c.deliver.ensures

pub returns-in-9 : goal.returns-in-9
returns-in-9 c =
    let a = c.args in
    same_writing _ _ a.out.now c.credit.new.out c.credit.result (credit_flat a.slots.now a.src.now a.limit a.out.now c.if-slots-ne1.false c.in-9.is) c.credit.ensures

pub returns-in-23 : goal.returns-in-23
returns-in-23 c =
    let a = c.args in
    same_writing _ _ a.out.now c.heartbeat.new.out c.heartbeat.result (heartbeat_flat a.slots.now a.src.now a.limit a.out.now c.if-slots-ne1.false c.in-23.is) c.heartbeat.ensures
