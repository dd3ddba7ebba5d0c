-- By the kind. The kinds whose fields are numbers have one width.
use Rattle.std.proofs.Common.{◌∙◌, ap, refl, arith}
use Rattle.protocol.specs.Kinds.{element_row}
use Rattle.protocol.specs.declared.kind.Element.TheVariants.{Message, Name, Property}
use Rattle.rules.specs.Reading.{read_row}
use Rattle.byte_strings.specs.Stops.{stop}
use Rattle.byte_strings.proofs.Stops.{repeated_ends}
use Rattle.number_lists.specs.Fixed.{none, one_more}
use Rattle.elements.proofs.elements.elements_end.Goals as goal

pub fixed-requires : goal.fixed-requires
fixed-requires c = rw c.in-PublishingId.is (one_more 8 _ refl none, omega arith)

pub fixed-requires-in-PublishingError : goal.fixed-requires-in-PublishingError
fixed-requires-in-PublishingError c = rw c.in-PublishingError.is (one_more 8 _ refl (one_more 2 _ refl none), omega arith)

pub fixed-requires-in-CommandVersions : goal.fixed-requires-in-CommandVersions
fixed-requires-in-CommandVersions c = rw c.in-CommandVersions.is (one_more 2 _ refl (one_more 2 _ refl (one_more 2 _ refl none)), omega arith)

pub fixed-requires-in-BrokerReference : goal.fixed-requires-in-BrokerReference
fixed-requires-in-BrokerReference c = rw c.in-BrokerReference.is (one_more 2 _ refl none, omega arith)

pub returns-in-Message : goal.returns-in-Message
returns-in-Message c =
    let a = c.args in
    rw c.in-Message.is (c.items_end.ensures ∙ ap stop (repeated_ends (read_row (element_row Message)) a.count a.s.now a.at))

pub returns-in-Name : goal.returns-in-Name
returns-in-Name c =
    let a = c.args in
    rw c.in-Name.is (c.items_end-in-Name.ensures ∙ ap stop (repeated_ends (read_row (element_row Name)) a.count a.s.now a.at))

pub returns-in-Property : goal.returns-in-Property
returns-in-Property c =
    let a = c.args in
    rw c.in-Property.is (c.items_end-in-Property.ensures ∙ ap stop (repeated_ends (read_row (element_row Property)) a.count a.s.now a.at))
