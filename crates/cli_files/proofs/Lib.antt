mod ServingLemmas
mod WorkLemmas
